-- `list_widths::all_still` meets its contract: whether each stands still.
use mathlib.Core.Path.{refl, sym, ◌∙◌}
use borrow.Author.Rules.{rules}
use borrow.Author.Tests.{tests}
use native.Mathlib.Omega.{arith}
use Rattle.std.proofs.lemmas.Iterator.{cases_from_all, YieldsList-from_range}
use Rattle.list.specs.rules.Stars.{stars}
use Rattle.list.specs.laws.Stars.{length_stars}
use Rattle.list_widths.specs.rules.Narrow.{is_still}
use Rattle.list_widths.specs.laws.Checked.{So, NotSo, decided}
use Rattle.list_widths.proofs.all_still.Goals as goal

pub returns : goal.returns
returns c =
    let rs = stars c.args.bytes.now in
    decided is_still rs _ c.count.result (c.count.ensures ∙ sym (length_stars _))
    (cases_from_all _ _ _ (So is_still rs) (NotSo is_still rs) c.all.ensures.ran (YieldsList-from_range 0 _ _ refl (omega arith))
    (λ x q k. search (rules, tests))
    (λ x q k. search (rules, tests)))
