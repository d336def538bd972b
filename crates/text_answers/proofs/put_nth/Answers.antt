-- `text_answers::put_nth` meets its contract.
use mathlib.Core.Path.{sym}
use borrow.Author.Tests.{eq-eqb, ne_eqb}
use Rattle.lent.specs.laws.Writing.{same, nothing}
use Rattle.text_answers.proofs.put_nth.Goals as goal

pub returns-then-number-eq0 : goal.returns-then-number-eq0
returns-then-number-eq0 c =
    same (simp (sym c.nth-star.ensures, eq-eqb _ _ c.if-number-eq0.true)) (nothing _ _ _ c.within.ensures)

pub returns : goal.returns
returns c =
    same
    (simp (
      sym c.nth-star.ensures,
      ne_eqb _ _ c.if-number-eq0.false,
      c.byte_at.ensures,
      c.angle_at.ensures,
      c.angle_at-2.ensures,
    ))
    c.put_star.ensures
