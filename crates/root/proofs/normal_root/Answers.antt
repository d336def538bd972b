-- `root::normal_root` meets its contract: the pattern, with 1021 more in its exponent's field, is what `pack` takes.
use Rattle.std.proofs.Common.{T, sym, subst}
use Rattle.root.specs.rules.Root.{root_of}
use Rattle.root.specs.notions.Steps.{IsNormal}
use Rattle.double.specs.laws.Patterns.{pattern_no_nan}
use Rattle.root.specs.laws.Normal.{above_zero_normal}
use Rattle.root.specs.laws.Nearest.{pattern_finite}
use Rattle.root.specs.laws.Tests.{normal_tested}
use Rattle.root.proofs.normal_root.Goals as goal
use Rattle.root.proofs.normal_root.Tie as tie
use Rattle.root.proofs.normal_root.Reads as reads
use Rattle.root.proofs.normal_root.Lts as lts

-- that the format holds x is what owning an `f64` tells
tested : (c : (lts.Start tie.the-claims reads.Pre reads.Post)) → IsNormal c.args.x
tested c = normal_tested c.args.x (subst T (sym c.well_formed.0.1) tt) c.requires.0 c.requires.1

pub float_from_bits-result : goal.float_from_bits-result
float_from_bits-result c =
    rw c.normal_bits.ensures (pattern_no_nan _ (pattern_finite (above_zero_normal c.args.x (tested c.before).above).2))

pub returns : goal.returns
unfolding root_of
returns c =
    let a = (tested c.before).above in
    rw (c.normal_bits.ensures, a.above, a.finite)
