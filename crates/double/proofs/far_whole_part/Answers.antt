-- `double::far_whole_part` meets its contract.
use Rattle.std.proofs.Common.{T, sym, subst}
use lib.Ieee.{of_bits, neg}
use Rattle.double.proofs.Tests.{above, below}
use Rattle.double.proofs.far_whole_part.Goals as goal

-- between the two tests the cast loses only what follows the point
pub truncating_f64_to_u64-requires : goal.truncating_f64_to_u64-requires
unfolding of_bits neg
truncating_f64_to_u64-requires c =
    record { lower_bound = subst T (sym c.if-x.true) tt; upper_bound = subst T (sym c.if-x-2.true) tt }

pub returns-then-x : goal.returns-then-x
returns-then-x c = above c.args.x c.if-x.true c.if-x-2.false

pub returns : goal.returns
returns c = below c.args.x c.if-x.false
