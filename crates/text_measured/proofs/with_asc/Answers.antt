-- `text_measured::with_asc` meets its contract.
use Rattle.text_measured.specs.rules.Sight.{with_asc}
use Rattle.text_measured.proofs.with_asc.Goals as goal

pub returns : goal.returns
unfolding with_asc
returns c = rw (c.after_field.ensures, c.next_degrees.ensures) at c.with_dec.ensures
