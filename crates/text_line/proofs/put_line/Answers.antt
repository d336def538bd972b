-- `text_line::put_line` meets its contract.
use borrow.Author.Tests.{eq-eqb, ne_eqb}
use mathlib.Core.List.{append_assoc}
use Rattle.lent.specs.laws.Writing.{after, same}
use Rattle.text_line.specs.rules.Line.{line_of}
use Rattle.text_line.proofs.put_line.Goals as goal

pub returns-then-status-eq0 : goal.returns-then-status-eq0
unfolding line_of
returns-then-status-eq0 c =
    same (simp (append_assoc, eq-eqb _ _ c.if-status-eq0.true)) (after (after c.put_decimal-a.ensures c.put_byte-b.ensures) c.put_angles.ensures)

pub returns : goal.returns
unfolding line_of
returns c =
    same (simp (append_assoc, ne_eqb _ _ c.if-status-eq0.false)) (after (after c.put_decimal-a.ensures c.put_byte-b.ensures) c.put_refused.ensures)
