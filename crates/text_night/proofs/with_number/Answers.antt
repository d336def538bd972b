-- `text_night::with_number` meets its contract.
use Rattle.text_night.specs.rules.Sight.{with_number}
use Rattle.text_night.proofs.with_number.Goals as goal

pub returns : goal.returns
unfolding with_number
returns c = rw (c.after_field.ensures, c.next_number.ensures) at c.with_star.ensures
