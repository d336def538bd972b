-- `text_night::with_star` meets its contract.
use Rattle.text_night.specs.rules.Sight.{with_star}
use Rattle.text_night.proofs.with_star.Goals as goal

pub returns : goal.returns
unfolding with_star
returns c = rw (c.after_field.ensures, c.next_degrees.ensures) at c.with_mark.ensures
