-- `root::normal_bits` meets its contract: the pattern, with 1021 more in its exponent's field, is what `pack` takes.
use Rattle.std.proofs.Common.{◌≡◌, ◌+◌, ◌/◌, ◌%◌, ◌^◌, T, sym, ap, ◌∙◌, subst, arith}
use lib.Ieee.{binary64, to_bits}
use lib.Ieee.Bits.{of_bits-to_bits}
use Rattle.root.specs.rules.Nearest.{twice_root_squared}
use Rattle.root.specs.rules.Root.{root_pattern}
use Rattle.root.specs.notions.Steps.{IsNormal}
use Rattle.double.specs.laws.Patterns.{above_zero_pattern, finite_no_nan}
use Rattle.root.specs.laws.Normal.{high_square, handed_on}
use Rattle.root.specs.laws.Tests.{normal_tested}
use Rattle.root.proofs.normal_bits.Goals as goal

-- that the format holds x is what owning an `f64` tells
tested : (c : goal.Start) → IsNormal c.args.x
tested c = normal_tested c.args.x (subst T (sym c.well_formed.0.1) tt) c.requires.0 c.requires.1

packed : (c : goal.After-pack) → c.pack.result ≡ root_pattern (twice_root_squared c.args.x)
packed c =
    let x = c.args.x in
    let n = tested c.before in
    let b = to_bits binary64 x in
    handed_on _ (2 ^ 52 + b % 2 ^ 52) (b / 2 ^ 52 + 1021) c.pack.ensures (omega arith) (omega arith) (omega arith)
    ∙ ap root_pattern
    (high_square b n.least (above_zero_pattern x n.above).1 ∙ ap twice_root_squared (of_bits-to_bits binary64 x n.above.held))

pub float_to_bits-x : goal.float_to_bits-x
float_to_bits-x c = finite_no_nan c.args.x (tested c).above.finite

pub overflow_add-x : goal.overflow_add-x
overflow_add-x c = omega (arith, (above_zero_pattern c.args.x (tested c).above).1)

pub pack-requires : goal.pack-requires
pack-requires c = omega (arith, (above_zero_pattern c.args.x (tested c).above).1)

pub returns : goal.returns
returns c = packed c
