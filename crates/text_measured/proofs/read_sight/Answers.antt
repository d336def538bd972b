-- `text_measured::read_sight` meets its contract.
use Rattle.text_measured.specs.rules.Sight.{sight_rule}
use Rattle.text_measured.proofs.read_sight.Goals as goal

pub returns : goal.returns
unfolding sight_rule
returns c = rw (c.after_field.ensures, c.next_number.ensures) at c.with_asc.ensures
