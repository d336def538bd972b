-- `text_heading::tenths_of` meets its contract.
use Rattle.text_heading.specs.rules.Angle.{tenths_of}
use Rattle.text_heading.proofs.tenths_of.Goals as goal

pub returns : goal.returns
unfolding tenths_of
returns c = rw (c.nearest_whole.ensures, c.size.ensures, c.tenths.ensures)
