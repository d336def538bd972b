-- Folded into one turn, an angle lies from 0 to a full turn, and days folded into one from 0 to 1.
use Rattle.std.specs.Prelude.{T, Float}
use Rattle.std.specs.Float.{binary64}
use Rattle.std.specs.Float.Ieee.{neg, add, le, lt, fits, of_bits}
use Rattle.std.specs.Float.Ieee.Positive.{positive}
use Rattle.double.specs.rules.Operations.{zero, one, ◌⊕◌}
use Rattle.double.specs.rules.Sign.{is_finite}
use Rattle.double.specs.rules.Order.{Finite, Between}
use Rattle.double.specs.notions.Range.{known, con, ◌⊞◌}
use Rattle.double.specs.laws.Tests.{by_test}
use Rattle.double.specs.laws.Order.{le_of_lt, le_of_not_lt}
use Rattle.double.specs.laws.Between.{between}
use Rattle.double.specs.laws.Interval.{bounded}
use Rattle.double.specs.laws.NearZero.{rem_between}
use Rattle.helpers.specs.rules.Angle.{remainder, limited, turn_in_degrees, turn_in_radians}

-- plus a full turn where it is below zero
limited_from : (x full : Float) → T (fits binary64 full) → T (positive full) → Finite zero → Finite x
    → (Between (neg full) zero (remainder x full) → Between zero full (remainder x full ⊕ full)) → Between zero full (limited x full)
unfolding limited
limited_from x full F p z q h =
    let r = remainder x full in
    let i = rem_between binary64 x full F p q in
    by_test (Between zero full) (lt r zero) (r ⊕ full) r
    (λ t. h (between i.start z i.from (le_of_lt r zero t)))
    (λ t. between z i.end (le_of_not_lt r zero i.finite z t) i.to)

pub limited_degrees : (x : Float) → Finite x → Between zero turn_in_degrees (limited x turn_in_degrees)
unfolding is_finite fits le neg add of_bits
limited_degrees x q = limited_from x turn_in_degrees tt tt tt q (λ i. bounded binary64 zero turn_in_degrees (known i ⊞ con turn_in_degrees) tt)

pub limited_radians : (x : Float) → Finite x → Between zero turn_in_radians (limited x turn_in_radians)
unfolding is_finite fits le neg add of_bits
limited_radians x q = limited_from x turn_in_radians tt tt tt q (λ i. bounded binary64 zero turn_in_radians (known i ⊞ con turn_in_radians) tt)

pub limited_days : (x : Float) → Finite x → Between zero one (limited x one)
unfolding is_finite fits le neg add of_bits
limited_days x q = limited_from x one tt tt tt q (λ i. bounded binary64 zero one (known i ⊞ con one) tt)
