-- `calendar::julian` meets its contract.
use Rattle.std.proofs.Common.{to_z-of_z}
use Rattle.calendar.specs.rules.Julian.{julian_of}
use Rattle.calendar.proofs.julian.Goals as goal

pub returns : goal.returns
unfolding julian_of
returns c =
    rw (c.nearest_u64_to_f64.ensures, c.millis_of.ensures, to_z-of_z c.ranges.dut1)
