-- `list_widths::all_in_range` meets its contract: whether each is in range.
use mathlib.Core.Path.{refl, sym, ◌∙◌}
use borrow.Author.Rules.{rules}
use borrow.Author.Tests.{tests}
use native.Mathlib.Omega.{arith}
use Rattle.std.proofs.lemmas.Iterator.{cases_from_all, YieldsList-from_range}
use Rattle.list.specs.rules.Record.{in_range}
use Rattle.list.specs.rules.Stars.{stars}
use Rattle.list.specs.laws.Stars.{length_stars}
use Rattle.list_widths.specs.laws.Checked.{So, NotSo, decided}
use Rattle.list_widths.proofs.all_in_range.Goals as goal

pub returns : goal.returns
returns c =
    let rs = stars c.args.bytes.now in
    decided in_range rs _ c.count.result (c.count.ensures ∙ sym (length_stars _))
    (cases_from_all _ _ _ (So in_range rs) (NotSo in_range rs) c.all.ensures.ran (YieldsList-from_range 0 _ _ refl (omega arith))
    (λ x q k. search (rules, tests))
    (λ x q k. search (rules, tests)))
