-- `text_measured::with_dec` meets its contract.
use Rattle.std.proofs.Common.{sym, ◌∙◌}
use Rattle.text_measured.specs.rules.Sight.{with_dec}
use Rattle.text_measured.proofs.with_dec.Goals as goal

pub returns-then-is_bare : goal.returns-then-is_bare
unfolding with_dec
returns-then-is_bare c =
    rw (sym (rw c.after_field.ensures at c.is_bare.ensures) ∙ c.if-is_bare.true) (rw c.next_degrees.ensures at c.sight_from.ensures)

pub returns : goal.returns
unfolding with_dec
returns c = rw (sym (rw c.after_field.ensures at c.is_bare.ensures) ∙ c.if-is_bare.false)
