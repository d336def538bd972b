-- `remainder::remainder_of` meets its contract: the tests leave two finite sizes to the whole numbers.
use mathlib.Core.Path.{◌≡◌, sym, ◌∙◌, subst}
use mathlib.Core.Bool.{true}
use Prim.Native.Nat.{◌%◌}
use borrow.Author.Tests.{not-true, not-false}
use lib.Dec.{T}
use lib.Ieee.{binary64, fits, lt, div, of_bits}
use Rattle.double.specs.rules.Operations.{bits, zero}
use Rattle.double.specs.rules.Sign.{size, is_finite}
use Rattle.double.specs.rules.Count.{count}
use Rattle.double.specs.laws.Patterns.{finite_no_nan, from_zero_pattern, pattern_from_zero, pattern_no_nan}
use Rattle.remainder.specs.notions.Steps.{Divisible}
use Rattle.remainder.specs.laws.Remainder.{remainder_is_only, signed_remainder}
use Rattle.remainder.specs.laws.Tests.{infinite_has_none, none_by_zero, size_from_zero, pattern_counts, above_no_nan, smaller_is_itself}
use Rattle.remainder.specs.laws.Tests.{divisible, minus_below_zero}
use Rattle.remainder.proofs.remainder_of.Goals as goal
use Rattle.remainder.proofs.remainder_of.Tie as tie
use Rattle.remainder.proofs.remainder_of.Reads as reads
use Rattle.remainder.proofs.remainder_of.Lts as lts

-- that the format holds them is what owning an `f64` tells
held_x : (c : (lts.Start tie.the-claims reads.Pre reads.Post)) → T (fits binary64 c.args.x)
held_x c = subst T (sym c.well_formed.0.1) tt

held_y : (c : (lts.Start tie.the-claims reads.Pre reads.Post)) → T (fits binary64 c.args.y)
held_y c = subst T (sym c.well_formed.1.0.1) tt

-- after both tests
finite : (c : (lts.Then2 tie.the-claims reads.Pre reads.Post)) → is_finite c.args.x ≡ true
finite c = sym c.is_finite.ensures ∙ not-false _ c.if-not-is_finite.false-raw

above : (c : (lts.Then2 tie.the-claims reads.Pre reads.Post)) → lt zero (size c.args.y) ≡ true
above c = rw c.size-d.ensures at c.if-d.true

pub returns-then-not-is_finite : goal.returns-then-not-is_finite
unfolding div of_bits
returns-then-not-is_finite c = infinite_has_none _ _ (sym c.is_finite.ensures ∙ not-true _ c.if-not-is_finite.true-raw)

pub float_to_bits-b : goal.float_to_bits-b
float_to_bits-b c =
    rw c.size-b.ensures (finite_no_nan _ (size_from_zero _ (held_x c.before.before.before.before.before) (finite c.before)).finite)

pub float_to_bits-c : goal.float_to_bits-c
float_to_bits-c c = above_no_nan _ c.if-d.true

pub returns-then-b-c : goal.returns-then-b-c
returns-then-b-c c =
    smaller_is_itself _ _ (held_x c.before.before.before.before.before.before) (held_y c.before.before.before.before.before.before) (finite c.before.before) (above c.before.before) (rw (c.size-b.ensures, c.size-d.ensures) at c.if-b-c.true)

-- after the last one
tested : (c : goal.Else-b-c) → Divisible c.args.x c.args.y
tested c =
    let t = c.before.before in
    let s = t.before.before.before.before in
    divisible _ _ (held_x s) (held_y s) (finite t) (above t) (rw (c.size-b.ensures, t.size-d.ensures) at c.if-b-c.false)

pub remainder_pattern-requires : goal.remainder_pattern-requires
remainder_pattern-requires c =
    let x = from_zero_pattern _ (size_from_zero _ (held_x c.before.before.before.before.before.before) (finite c.before.before)) in
    (rw c.size-b.ensures x, rw c.size-d.ensures (tested c).some, c.if-b-c.false)

pub float_from_bits-remainder_pattern : goal.float_from_bits-remainder_pattern
float_from_bits-remainder_pattern c = pattern_no_nan _ c.remainder_pattern.ensures.0

pub returns-then-d : goal.returns-then-d
returns-then-d c =
    let x = c.args.x in
    let y = c.args.y in
    let d = tested c.before.before in
    let rest : count (bits c.remainder_pattern.result) ≡ count x % count y =
    rw (c.size-b.ensures, c.size-d.ensures, pattern_counts x (held_x c.before.before.before.before.before.before.before.before) (finite c.before.before.before.before), pattern_counts y (held_y c.before.before.before.before.before.before.before.before) d.finite) at c.remainder_pattern.ensures.1 in
    rw (minus_below_zero x (finite c.before.before.before.before) d.first_counts) at c.negated_if.ensures
    ∙ remainder_is_only x y _ (held_x c.before.before.before.before.before.before.before.before) (held_y c.before.before.before.before.before.before.before.before) (finite c.before.before.before.before) d.finite d.second_counts
    (signed_remainder x y _ (pattern_from_zero _ c.remainder_pattern.ensures.0) rest)

pub returns : goal.returns
unfolding div of_bits
returns c = none_by_zero _ _ (rw c.size-d.ensures at c.if-d.false)
