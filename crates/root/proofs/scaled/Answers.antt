-- `root::scaled` is safe: the pattern that it makes is no NaN's.
use Rattle.std.proofs.Common.{arith}
use Rattle.double.specs.laws.Patterns.{pattern_no_nan}
use Rattle.root.proofs.scaled.Goals as goal

pub float_from_bits-result : goal.float_from_bits-result
float_from_bits-result c = pattern_no_nan _ (omega arith)
