-- `text_heading::put_circle` meets its contract.
use Rattle.lent.specs.laws.Writing.{same}
use Rattle.text_heading.specs.rules.Angle.{circle_text}
use Rattle.text_heading.proofs.put_circle.Goals as goal

pub returns : goal.returns
unfolding circle_text
returns c = same (rw c.circle_tenths.ensures) c.put_column.ensures
