-- `text_sights::put_left_at` meets its contract.
use mathlib.Core.Path.{sym, ◌∙◌}
use borrow.Author.Tests.{eq-eqb, ne_eqb}
use Rattle.lent.specs.laws.Writing.{same, nothing}
use Rattle.text_sights.specs.rules.Sights.{left_at}
use Rattle.text_sights.proofs.put_left_at.Goals as goal

pub returns-then-n-eq0 : goal.returns-then-n-eq0
unfolding left_at
returns-then-n-eq0 c =
    same (rw (eq-eqb _ 0 (sym c.status_at-n.ensures ∙ c.if-n-eq0.true))) (nothing _ _ _ c.within.ensures)

pub returns : goal.returns
unfolding left_at
returns c =
    let status = c.status_at-n.ensures in
    same (rw (ne_eqb _ 0 (λ e. c.if-n-eq0.false (status ∙ e))))
    (rw (status, c.star_at.ensures, c.number_at.ensures) at c.put_left.ensures)
