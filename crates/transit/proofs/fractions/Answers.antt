-- `transit::fractions` meets its contract.
use Rattle.transit.specs.rules.RiseCulmSet.{fractions}
use Rattle.transit.proofs.fractions.Goals as goal

pub returns : goal.returns
unfolding fractions
returns c = rw (c.within_a_day-3.ensures, c.within_a_day-2.ensures, c.within_a_day.ensures)
