-- `text_sights::put_sight_at` meets its contract.
use mathlib.Core.Path.{sym, ◌∙◌}
use borrow.Author.Tests.{eq-eqb, ne_eqb}
use Rattle.lent.specs.laws.Writing.{same}
use Rattle.text_sights.specs.rules.Sights.{sight_at}
use Rattle.text_sights.proofs.put_sight_at.Goals as goal

pub returns-then-n-ne0 : goal.returns-then-n-ne0
unfolding sight_at
returns-then-n-ne0 c =
    let status = c.status_at-n.ensures in
    same (rw (ne_eqb _ 0 (λ e. c.if-n-ne0.true (status ∙ e))))
    (rw (status, c.star_at-number.ensures, c.number_at-on_line.ensures) at c.put_refused_sight.ensures)

pub returns : goal.returns
unfolding sight_at
returns c =
    let status = c.status_at-n.ensures in
    same (rw (eq-eqb _ 0 (sym status ∙ c.if-n-ne0.false)))
    (rw (c.residual_at-d.ensures, c.residual_at-a.ensures, c.star_at-number.ensures, c.number_at-on_line.ensures)
    at c.put_sight.ensures)
