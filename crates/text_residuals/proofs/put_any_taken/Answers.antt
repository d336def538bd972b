-- `text_residuals::put_any_taken` meets its contract.
use mathlib.Core.Path.{◌≡◌, sym, ap, ◌∙◌}
use lib.IntN.{nat_abs}
use borrow.Author.Tests.{eq-eqb, ne_eqb}
use Rattle.lent.specs.laws.Writing.{same, nothing}
use Rattle.text_residuals.specs.rules.Sheet.{any_taken_text}
use Rattle.text_residuals.proofs.Cases.{as_read}
use Rattle.text_residuals.proofs.put_any_taken.Lts as lts
use Rattle.text_residuals.proofs.put_any_taken.Reads as reads
use Rattle.text_residuals.proofs.put_any_taken.Tie as tie
use Rattle.text_residuals.proofs.put_any_taken.Goals as goal

-- how many, as the code reads it
count_is : (c : (lts.After-size tie.the-claims reads.Pre reads.Post)) → c.size.result ≡ nat_abs c.args.sheet.count
count_is c =
    let s = c.args.sheet in
    c.size.ensures ∙ ap nat_abs (as_read s.count c.struct_told-1.given.0.1)

pub returns-then-size-eq0 : goal.returns-then-size-eq0
unfolding any_taken_text
returns-then-size-eq0 c =
    same (rw (eq-eqb (nat_abs c.args.sheet.count) 0 (sym (count_is c.before.before.before) ∙ c.if-size-eq0.true)))
    (nothing c.args.out.now c.args.at c.within.result c.within.ensures)

pub returns : goal.returns
unfolding any_taken_text
returns c =
    same (rw (ne_eqb (nat_abs c.args.sheet.count) 0 (λ (e : nat_abs c.args.sheet.count ≡ 0). c.if-size-eq0.false (count_is c.before.before.before.before.before.before ∙ e))))
    c.put_taken.ensures
