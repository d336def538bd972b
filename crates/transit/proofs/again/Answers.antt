-- `transit::again` meets its contract.
use Rattle.std.proofs.Common.{rules}
use lib.Ieee.{div, of_bits, round}
use Rattle.transit.proofs.again.Goals as goal

pub returns-in-Ok : goal.returns-in-Ok
unfolding div of_bits round
returns-in-Ok c = search rules
