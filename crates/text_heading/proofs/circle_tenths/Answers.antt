-- `text_heading::circle_tenths` meets its contract.
use Rattle.text_heading.specs.rules.Angle.{circle_tenths}
use Rattle.text_heading.proofs.circle_tenths.Goals as goal

pub returns : goal.returns
unfolding circle_tenths
returns c = rw c.tenths_of.ensures
