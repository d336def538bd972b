-- `text_night::with_mark` meets its contract.
use Rattle.std.proofs.Common.{sym, ◌∙◌}
use Rattle.text_night.specs.rules.Sight.{with_mark}
use Rattle.text_night.proofs.with_mark.Goals as goal

pub returns-then-is_bare : goal.returns-then-is_bare
unfolding with_mark
returns-then-is_bare c =
    rw (sym (rw c.after_field.ensures at c.is_bare.ensures) ∙ c.if-is_bare.true) (rw c.next_degrees.ensures at c.sight_from.ensures)

pub returns : goal.returns
unfolding with_mark
returns c = rw (sym (rw c.after_field.ensures at c.is_bare.ensures) ∙ c.if-is_bare.false)
