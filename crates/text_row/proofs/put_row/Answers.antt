-- `text_row::put_row` meets its contract.
use borrow.Author.Tests.{eq-eqb, ne_eqb}
use mathlib.Core.List.{append_assoc}
use Rattle.lent.specs.laws.Writing.{after, same}
use Rattle.text_row.specs.rules.Row.{row_of}
use Rattle.text_row.proofs.put_row.Goals as goal

pub returns-then-status-eq0 : goal.returns-then-status-eq0
unfolding row_of
returns-then-status-eq0 c =
    same (simp (append_assoc, eq-eqb _ _ c.if-status-eq0.true)) (after (after c.put_column-a.ensures c.put-b.ensures) c.put_place.ensures)

pub returns : goal.returns
unfolding row_of
returns c =
    same (simp (append_assoc, ne_eqb _ _ c.if-status-eq0.false)) (after (after c.put_column-a.ensures c.put-b.ensures) c.put_refusal.ensures)
