-- The turn from south to north of an azimuth of half a turn at most: the sum with 180, or 0 where that is a whole turn; and in which half and
-- quarter of the circle it lies.
use Rattle.std.specs.Prelude.{◌≡◌, ◌⊎◌, Bool, true, false, Float}
use Rattle.std.proofs.Math.Path.{refl}
use Rattle.std.proofs.Common.{sym, subst, inl, inr}
use Rattle.std.specs.Float.{nan, inf, fin}
use Rattle.std.specs.Float.Ieee.{binary64, neg, add, mul, le, of_bits}
use Rattle.std.specs.Float.Ieee.Fits.{add-fits}
use Rattle.double.specs.rules.Operations.{zero}
use Rattle.double.specs.rules.Sign.{bears_minus, size, is_finite, negated_if}
use Rattle.double.specs.rules.Order.{◌≼◌, Finite, Between}
use Rattle.double.specs.notions.Range.{known, con, ◌⊞◌, ◌⊠◌}
use Rattle.double.specs.laws.Between.{between_neg, between, size→between, size_between}
use Rattle.double.specs.laws.Interval.{bounded}
use Rattle.quantity.specs.declared.Rad.{Rad}
use Rattle.quantity.specs.rules.Angle.{PI, HALF}
use Rattle.units.specs.rules.Degrees.{degrees_of_radian, to_degrees}
use Rattle.helpers.specs.rules.Angle.{turn_in_degrees}
use Rattle.helpers.specs.rules.Circle.{half_turn}
use Rattle.heading.specs.rules.Sky.{northward}
use Rattle.domain_heading.specs.notions.Circle.{IsHeading, east, west}
use Rattle.domain_heading.specs.notions.Sky.{turned}
use Rattle.domain_heading.specs.laws.Circle.{on_circle_cases, on_circle_within}

pub finite_pi : Finite PI
unfolding is_finite of_bits
finite_pi = tt

-- a double is its size, with its sign
pub signed_size : (v : Float) (s : Bool) → bears_minus v ≡ s → Finite v → v ≡ negated_if s (size v)
unfolding bears_minus size neg is_finite
signed_size nan s e q = absurd q
signed_size (inf t) s e q = absurd q
signed_size (fin true m e) true h q = refl
signed_size (fin true m e) false h q = cc
signed_size (fin false m e) true h q = cc
signed_size (fin false m e) false h q = refl

module _ (az : Rad) (far : size az.0 ≼ PI) where
  azimuth_between : Between (neg PI) PI az.0
  azimuth_between = size→between PI az.0 finite_pi far

  pub degrees_between : Between (neg half_turn) half_turn (to_degrees az).0
  unfolding is_finite le neg mul of_bits
  degrees_between = bounded binary64 (neg half_turn) half_turn (known azimuth_between ⊠ con degrees_of_radian) tt

  pub turned_between : Between zero turn_in_degrees (turned az)
  unfolding is_finite le neg add mul of_bits
  turned_between = bounded binary64 zero turn_in_degrees (known azimuth_between ⊠ con degrees_of_radian ⊞ con half_turn) tt

  -- one rounding from half a turn; a whole turn is 0
  pub turned_cases : ((northward (to_degrees az)).0 ≡ turned az) ⊎ ((turned az ≡ turn_in_degrees) × ((northward (to_degrees az)).0 ≡ zero))
  unfolding northward
  turned_cases = on_circle_cases (turned az) (add-fits binary64 (to_degrees az).0 half_turn) turned_between

  pub turned_within : IsHeading (northward (to_degrees az)).0
  unfolding northward
  turned_within = on_circle_within (turned az) turned_between.finite

  -- ---- the half of the circle, by the azimuth's sign

  from_zero : bears_minus az.0 ≡ false → Between zero PI az.0
  from_zero e = subst (Between zero PI) (sym (signed_size az.0 false e azimuth_between.finite)) (size_between az.0 PI finite_pi far)

  to_zero : bears_minus az.0 ≡ true → Between (neg PI) (neg zero) az.0
  to_zero e =
      subst (Between (neg PI) (neg zero)) (sym (signed_size az.0 true e azimuth_between.finite)) (between_neg (size_between az.0 PI finite_pi far))

  -- west of the meridian, or on it in the north
  pub turned_west : bears_minus az.0 ≡ false → (half_turn ≼ (northward (to_degrees az)).0) ⊎ ((northward (to_degrees az)).0 ≡ zero)
  unfolding is_finite le neg add mul of_bits
  turned_west e = by_case turned_cases
    where
      i : Between half_turn turn_in_degrees (turned az)
      i = bounded binary64 half_turn turn_in_degrees (known (from_zero e) ⊠ con degrees_of_radian ⊞ con half_turn) tt

      by_case : ((northward (to_degrees az)).0 ≡ turned az) ⊎ ((turned az ≡ turn_in_degrees) × ((northward (to_degrees az)).0 ≡ zero))
          → (half_turn ≼ (northward (to_degrees az)).0) ⊎ ((northward (to_degrees az)).0 ≡ zero)
      by_case (inl h) = inl (subst (λ (y : Float). half_turn ≼ y) (sym h) i.from)
      by_case (inr h) = inr h.1

  -- east of it, or on it
  pub turned_east : bears_minus az.0 ≡ true → (northward (to_degrees az)).0 ≼ half_turn
  unfolding is_finite le neg add mul of_bits
  turned_east e = by_case turned_cases
    where
      i : Between zero half_turn (turned az)
      i = bounded binary64 zero half_turn (known (to_zero e) ⊠ con degrees_of_radian ⊞ con half_turn) tt

      by_case : ((northward (to_degrees az)).0 ≡ turned az) ⊎ ((turned az ≡ turn_in_degrees) × ((northward (to_degrees az)).0 ≡ zero))
          → (northward (to_degrees az)).0 ≼ half_turn
      by_case (inl h) = subst (λ (y : Float). y ≼ half_turn) (sym h) i.to
      by_case (inr h) = subst (λ (y : Float). y ≼ half_turn) (sym h.1) tt

  -- ---- the quarters, by its size

  -- from east over south to west
  pub turned_south : size az.0 ≼ HALF → Between east west (northward (to_degrees az)).0
  unfolding is_finite le neg add mul of_bits
  turned_south near = by_case turned_cases
    where
      i : Between east west (turned az)
      i = bounded binary64 east west (known (size→between HALF az.0 tt near) ⊠ con degrees_of_radian ⊞ con half_turn) tt

      by_case : ((northward (to_degrees az)).0 ≡ turned az) ⊎ ((turned az ≡ turn_in_degrees) × ((northward (to_degrees az)).0 ≡ zero))
          → Between east west (northward (to_degrees az)).0
      by_case (inl h) = subst (Between east west) (sym h) i
      by_case (inr h) = absurd (subst (λ (y : Float). y ≼ west) h.0 i.to)

  -- from west over north to east
  pub turned_north : HALF ≼ size az.0 → ((northward (to_degrees az)).0 ≼ east) ⊎ (west ≼ (northward (to_degrees az)).0)
  unfolding is_finite le neg add mul of_bits
  turned_north past = by_sign (bears_minus az.0) refl turned_cases
    where
      j : Between HALF PI (size az.0)
      j = between tt tt past far

      by_sign : (s : Bool) → bears_minus az.0 ≡ s
          → ((northward (to_degrees az)).0 ≡ turned az) ⊎ ((turned az ≡ turn_in_degrees) × ((northward (to_degrees az)).0 ≡ zero))
          → ((northward (to_degrees az)).0 ≼ east) ⊎ (west ≼ (northward (to_degrees az)).0)
      by_sign s e (inr h) = inl (subst (λ (y : Float). y ≼ east) (sym h.1) tt)
      by_sign true e (inl h) =
          let k : Between (neg PI) (neg HALF) az.0 = subst (Between (neg PI) (neg HALF)) (sym (signed_size az.0 true e azimuth_between.finite)) (between_neg j) in
          let i : Between zero east (turned az) = bounded binary64 zero east (known k ⊠ con degrees_of_radian ⊞ con half_turn) tt in
          inl (subst (λ (y : Float). y ≼ east) (sym h) i.to)
      by_sign false e (inl h) =
          let k : Between HALF PI az.0 = subst (Between HALF PI) (sym (signed_size az.0 false e azimuth_between.finite)) j in
          let i : Between west turn_in_degrees (turned az) = bounded binary64 west turn_in_degrees (known k ⊠ con degrees_of_radian ⊞ con half_turn) tt in
          inr (subst (λ (y : Float). west ≼ y) (sym h) i.from)
