-- `text_row::milliseconds_of` meets its contract.
use Rattle.text_row.specs.rules.Place.{milliseconds_of}
use Rattle.text_row.proofs.milliseconds_of.Goals as goal

pub returns : goal.returns
unfolding milliseconds_of
returns c =
    rw (c.nearest_whole.ensures, c.milliseconds-y.ensures, c.to_degrees.ensures, c.within_two_PI.ensures)
