-- `units::nearest_whole` meets its contract.
use Rattle.std.proofs.Common.{le-ltb, lt-ltb}
use Rattle.units.specs.rules.Nearest.{nearest_whole}
use Rattle.units.proofs.nearest_whole.Goals as goal

pub returns-then-y-nearest_u64_to_f64 : goal.returns-then-y-nearest_u64_to_f64
unfolding nearest_whole
returns-then-y-nearest_u64_to_f64 c = simp (← c.whole_part-w.ensures, lt-ltb _ _ c.if-w-lt9007199254740992.true, ← c.nearest_u64_to_f64.ensures, c.if-y-nearest_u64_to_f64.true)

pub returns-else-y-nearest_u64_to_f64 : goal.returns-else-y-nearest_u64_to_f64
unfolding nearest_whole
returns-else-y-nearest_u64_to_f64 c = simp (← c.whole_part-w.ensures, lt-ltb _ _ c.if-w-lt9007199254740992.true, ← c.nearest_u64_to_f64.ensures, c.if-y-nearest_u64_to_f64.false)

pub returns-else-w-lt9007199254740992 : goal.returns-else-w-lt9007199254740992
unfolding nearest_whole
returns-else-w-lt9007199254740992 c = simp (← c.whole_part-w.ensures, le-ltb _ _ c.if-w-lt9007199254740992.false)
