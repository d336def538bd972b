-- `root::reciprocal` is safe: no pattern that it makes is a NaN's.
use Rattle.std.proofs.Common.{arith}
use Rattle.double.specs.laws.Patterns.{pattern_no_nan}
use Rattle.root.proofs.reciprocal.Goals as goal

pub float_from_bits-y0 : goal.float_from_bits-y0
float_from_bits-y0 c = pattern_no_nan _ (omega arith)
