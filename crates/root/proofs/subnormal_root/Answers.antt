-- `root::subnormal_root` meets its contract: the digits are `Raised` by their leading zeros.
use Rattle.std.proofs.Common.{◌≡◌, ◌-◌, ◌*◌, ◌^◌, ◌<◌, T, sym, ap, ◌∙◌, subst, arith}
use lib.Count.{count_leading_zeros}
use lib.Ieee.{binary64, to_bits}
use lib.Ieee.Bits.{of_bits-to_bits}
use Rattle.root.specs.rules.Nearest.{twice_root_squared}
use Rattle.root.specs.rules.Root.{root_pattern, root_of}
use Rattle.double.specs.notions.Count.{Raised}
use Rattle.root.specs.notions.Steps.{IsSubnormal}
use Rattle.double.specs.laws.Patterns.{above_zero_pattern, finite_no_nan, pattern_no_nan}
use Rattle.root.specs.laws.Normal.{above_zero_normal, brought_up, handed_on}
use Rattle.root.specs.laws.Nearest.{pattern_finite}
use Rattle.root.specs.laws.Tests.{subnormal_tested}
use Rattle.root.proofs.subnormal_root.Goals as goal

-- that the format holds x is what owning an `f64` tells
tested : (c : goal.Start) → IsSubnormal c.args.x
tested c = subnormal_tested c.args.x (subst T (sym c.well_formed.0.1) tt) c.requires.0 c.requires.1

some : (c : goal.Start) → 0 < to_bits binary64 c.args.x
some c = (above_zero_pattern c.args.x (tested c).above).0

up : (c : goal.Start) → Raised (to_bits binary64 c.args.x) (count_leading_zeros 64 (to_bits binary64 c.args.x))
up c = (brought_up (to_bits binary64 c.args.x) (some c) (tested c).most).0

packed : (c : goal.After-pack) → c.pack.result ≡ root_pattern (twice_root_squared c.args.x)
packed c =
    let x = c.args.x in
    let n = tested c.before in
    let b = to_bits binary64 x in
    let z = count_leading_zeros 64 b in
    let r = up c.before in
    handed_on _ (b * 2 ^ (z - 11)) (1022 - (z - 11)) c.pack.ensures (omega (arith, r)) r.least r.most
    ∙ ap root_pattern ((brought_up b (some c.before) n.most).1 ∙ ap twice_root_squared (of_bits-to_bits binary64 x n.above.held))

pub float_to_bits-b : goal.float_to_bits-b
float_to_bits-b c = finite_no_nan c.args.x (tested c).above.finite

pub overflow_sub-up : goal.overflow_sub-up
overflow_sub-up c = omega (arith, up c)

pub overflow_cast-up : goal.overflow_cast-up
overflow_cast-up c = omega (arith, up c)

pub overflow_sub-up-2 : goal.overflow_sub-up-2
overflow_sub-up-2 c = omega (arith, up c)

pub overflow_cast-up-2 : goal.overflow_cast-up-2
overflow_cast-up-2 c = omega (arith, up c)

pub overflow_shl-b : goal.overflow_shl-b
overflow_shl-b c = omega (arith, up c)

pub overflow_add-up : goal.overflow_add-up
overflow_add-up c = omega (arith, up c)

pub pack-requires : goal.pack-requires
pack-requires c = omega (arith, up c)

pub float_from_bits-result : goal.float_from_bits-result
float_from_bits-result c =
    rw (packed c) (pattern_no_nan _ (pattern_finite (above_zero_normal c.args.x (tested c.before).above).2))

pub returns : goal.returns
unfolding root_of
returns c =
    let a = (tested c.before).above in
    rw (packed c, a.above, a.finite)
