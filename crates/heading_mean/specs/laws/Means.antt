-- Where the mean lies: its residual between the least and the greatest that are taken in, itself within 1000 seconds of the reference on
-- either side of north, and in the turn.
use Rattle.std.specs.Prelude.{◌≡◌, Bool, true, false, cond, List, [], ◌∷◌, ℕ, suc, ◌+◌, ◌*◌, ◌≤◌, ◌<◌, ℤ, pos, ◌-ℤ◌, Float, length, get_or}
use Rattle.std.proofs.Common.{sym, subst, arith}
use Rattle.std.proofs.Math.Path.{ap}
use Rattle.std.specs.Float.Ieee.{binary64, neg, add, div, le, lt, of_int, of_bits, round}
use Rattle.double.specs.rules.Operations.{bits, zero, ◌⊕◌, ◌⊘◌}
use Rattle.double.specs.rules.Sign.{is_finite}
use Rattle.double.specs.rules.Order.{◌≼◌, Finite, Between}
use Rattle.double.specs.notions.Range.{known, con, ◌⊞◌, ◌⧄◌}
use Rattle.double.specs.laws.Tests.{by_test}
use Rattle.double.specs.laws.Order.{le_of_lt}
use Rattle.double.specs.laws.Between.{between}
use Rattle.double.specs.laws.Interval.{bounded}
use Rattle.quantity.specs.declared.Deg.{Deg}
use Rattle.quantity.specs.rules.Angle.{deg}
use Rattle.units.specs.rules.Degrees.{milliarcseconds_of_degree}
use Rattle.helpers.specs.rules.Angle.{turn_in_degrees, within360}
use Rattle.helpers.specs.rules.Circle.{below_turn, on_circle, circle_refusal}
use Rattle.helpers.specs.laws.Circle.{circle_from_zero, circle_below_turn}
use Rattle.helpers.specs.laws.Limit.{limited_degrees}
use Rattle.list.specs.rules.Stars.{most_stars}
use Rattle.residual_sheet.specs.declared.Residual.{Residual}
use Rattle.residual_sheet.specs.rules.Residual.{whole_of}
use Rattle.residual_sheet.specs.rules.Sheet.{taken_in, figures_of}
use Rattle.residual_sheet.specs.rules.Running.{above, below, above_of, below_of, AtMost, running_of}
use Rattle.residual_sheet.specs.notions.Sheet.{AllNear}
use Rattle.residual_sheet.specs.laws.Running.{near_entries, sum_in_parts, whole_in_parts}
use Rattle.heading_mean.specs.rules.Residual.{residual_from}
use Rattle.heading_mean.specs.rules.Reference.{heading_of}
use Rattle.heading_mean.specs.rules.Mean.{entry_from, entries_from, figures_from, mean_residual, mean_of}
use Rattle.heading_mean.specs.notions.Near.{AllFrom, AllTo, westmost, eastmost, farthest_offset, InTurn}
use Rattle.heading_mean.specs.laws.Grown.{all_at_most}
use Rattle.heading_mean.specs.laws.Quotient.{quotient_from, quotient_to}

-- ---- sums of what is bounded

sums_from : (l : Residual) (xs : List Residual) → AllFrom l xs → above l * length xs + below_of xs ≤ above_of xs + below l * length xs
sums_from l [] a = omega arith
sums_from l (x ∷ xs) a = step (above l) (below l) (above x) (below x) (length xs) (above_of xs) (below_of xs) a.0 (sums_from l xs a.1)
  where
    step : (p q r s n P Q : ℕ) → p + s ≤ r + q → p * n + Q ≤ P + q * n → p * suc n + (s + Q) ≤ r + P + q * suc n
    step p q r s n P Q h k = omega arith

sums_to : (g : Residual) (xs : List Residual) → AllTo g xs → above_of xs + below g * length xs ≤ above g * length xs + below_of xs
sums_to g [] a = omega arith
sums_to g (x ∷ xs) a = step (above g) (below g) (above x) (below x) (length xs) (above_of xs) (below_of xs) a.0 (sums_to g xs a.1)
  where
    step : (p q r s n P Q : ℕ) → r + q ≤ p + s → P + q * n ≤ p * n + Q → r + P + q * suc n ≤ p * suc n + (s + Q)
    step p q r s n P Q h k = omega arith

from_westmost : (xs : List Residual) → AllNear xs → AllFrom westmost xs
from_westmost [] n = tt
from_westmost (x ∷ xs) n = (one x.minus x.size n.0, from_westmost xs n.1)
  where
    one : (b : Bool) (k : ℕ) → k ≤ 1000000 → 0 + cond b k 0 ≤ cond b 0 k + 1000000
    one true k h = omega arith
    one false k h = omega arith

to_eastmost : (xs : List Residual) → AllNear xs → AllTo eastmost xs
to_eastmost [] n = tt
to_eastmost (x ∷ xs) n = (one x.minus x.size n.0, to_eastmost xs n.1)
  where
    one : (b : Bool) (k : ℕ) → k ≤ 1000000 → cond b 0 k + 0 ≤ 1000000 + cond b k 0
    one true k h = omega arith
    one false k h = omega arith

-- ---- the mean residual

module _ (reference : Deg) (headings : List ℕ) (few : length headings ≤ most_stars) (some : 0 < (figures_from reference headings).count) where
  abbrev xs : List Residual
  xs = taken_in (entries_from reference headings)

  abbrev mean_here : Float
  mean_here = mean_residual (figures_from reference headings).sum (figures_from reference headings).count

  abbrev in_parts : Float
  in_parts = mean_residual (pos (above_of xs) -ℤ pos (below_of xs)) (length xs)

  same : in_parts ≡ mean_here
  unfolding figures_of
  same = ap (λ (z : ℤ). mean_residual z (length xs)) (sym (sum_in_parts xs))

  bound : AtMost most_stars (running_of (entries_from reference headings))
  bound = all_at_most reference headings few

  counted : length xs ≤ 3000
  unfolding running_of
  counted = omega (arith, bound.counted)

  sizes : above_of xs + below_of xs ≤ 3000000000
  unfolding running_of
  sizes = omega (arith, bound.counted, bound.sizes)

  taken : 0 < length xs
  unfolding figures_of
  taken = some

  -- not below the least, nor above the greatest, that is taken in
  pub mean_from_least : (l : Residual) → AllFrom l xs → of_int binary64 (whole_of l) ≼ mean_here
  mean_from_least l a =
      subst (λ (z : ℤ). of_int binary64 z ≼ mean_here) (sym (whole_in_parts l))
      (subst (λ (m : Float). of_int binary64 (pos (above l) -ℤ pos (below l)) ≼ m) same
      (quotient_from (above_of xs) (below_of xs) (length xs) (omega (arith, sizes)) (omega (arith, sizes)) taken (omega (arith, counted)) (above l) (below l)
      (sums_from l xs a)))

  pub mean_to_greatest : (g : Residual) → AllTo g xs → mean_here ≼ of_int binary64 (whole_of g)
  mean_to_greatest g a =
      subst (λ (z : ℤ). mean_here ≼ of_int binary64 z) (sym (whole_in_parts g))
      (subst (λ (m : Float). m ≼ of_int binary64 (pos (above g) -ℤ pos (below g))) same
      (quotient_to (above_of xs) (below_of xs) (length xs) (omega (arith, sizes)) (omega (arith, sizes)) taken (omega (arith, counted)) (above g) (below g)
      (sums_to g xs a)))

  near : AllNear xs
  unfolding entry_from
  near = near_entries (length headings) (λ (i : ℕ). 0) (λ (i : ℕ). residual_from reference (heading_of (get_or headings i 0)))

  -- 1000000.0
  abbrev million : Float
  million = bits 0x412e848000000000

  mean_within : Between (neg million) million mean_here
  unfolding of_int is_finite neg of_bits round
  mean_within = between tt tt (mean_from_least westmost (from_westmost xs near)) (mean_to_greatest eastmost (to_eastmost xs near))

  -- and within 1000 seconds on either side, in degrees
  pub offset_within : Between (neg farthest_offset) farthest_offset (mean_here ⊘ milliarcseconds_of_degree)
  unfolding is_finite le neg div of_bits
  offset_within = bounded binary64 (neg farthest_offset) farthest_offset (known mean_within ⧄ con milliarcseconds_of_degree) tt

  -- `limit_to_360` refuses no sum
  pub sum_finite : circle_refusal reference ≡ 0 → Finite (reference.0 ⊕ (mean_here ⊘ milliarcseconds_of_degree))
  unfolding is_finite le neg add of_bits
  sum_finite e =
      let r = between {a = zero} {b = turn_in_degrees} {z = reference.0} tt tt (circle_from_zero reference e) (le_of_lt reference.0 turn_in_degrees (circle_below_turn reference e)) in
      (bounded binary64 (neg turn_in_degrees) (bits 0x4086800000000000) (known r ⊞ known offset_within) tt).finite

-- ---- in the turn

below_turn_in : (x : Deg) → Between zero turn_in_degrees x.0 → InTurn (below_turn x)
unfolding below_turn le lt of_bits
below_turn_in x i =
    by_test InTurn (lt x.0 turn_in_degrees) x (deg zero) (λ t. record { from = i.from; below = t }) (λ t. record { from = tt; below = tt })

pub mean_in_turn : (reference : Deg) (sum : ℤ) (count : ℕ) → Finite (reference.0 ⊕ (mean_residual sum count ⊘ milliarcseconds_of_degree))
    → InTurn (mean_of reference sum count)
unfolding mean_of on_circle
mean_in_turn reference sum count F =
    let y = reference.0 ⊕ (mean_residual sum count ⊘ milliarcseconds_of_degree) in
    below_turn_in (within360 (deg y)) (limited_degrees y F)
