-- Condition 3: negate right ascension with declination, and ecliptic longitude and latitude each change sign only, provided the sums
-- behind both are not zero. Refused calls refuse alike, whatever the sums.
use Rattle.std.specs.Prelude.{ℕ, ◌≡◌, Bool, true, false, Float}
use Rattle.std.proofs.Math.Path.{refl}
use Rattle.std.proofs.Common.{sym, ap, ◌∙◌}
use Rattle.std.proofs.Math.Dec.{T}
use Rattle.std.specs.Float.{binary64}
use Rattle.std.specs.Float.Ieee.{neg, le, of_bits}
use Rattle.double.specs.rules.Operations.{zero, one, ◌⊗◌}
use Rattle.double.specs.rules.Sign.{size}
use Rattle.double.specs.rules.Order.{◌≼◌, is_zero, NonZero}
use Rattle.double.specs.laws.Tests.{holds, fails}
use Rattle.double.specs.laws.Order.{le_trans}
use Rattle.double.specs.laws.Zero.{size_of_zero, add_zero_neg}
use Rattle.double.specs.laws.Mirror.{mul_neg_l, mul_neg_r, add_neg_neg, sub_neg_neg}
use Rattle.quantity.specs.declared.Rad.{Rad}
use Rattle.quantity.specs.rules.Angle.{opposite}
use Rattle.quantity.specs.rules.Answer.{Answer, answered, refused, with, then, both}
use Rattle.quantity.specs.laws.Steps.{refused_not_answered}
use Rattle.quantity.specs.laws.Answer.{with_unless}
use Rattle.quantity.specs.laws.Refusal.{angle_opposite, steep_opposite}
use Rattle.elementary.specs.rules.Sine.{sine_of, cosine_of, tangent_of}
use Rattle.elementary.specs.laws.Mirror.{sine_odd, cosine_even, tangent_odd}
use Rattle.elementary_arc.specs.laws.Mirror.{arctangent_in_odd, arcsine_in_odd}
use Rattle.elementary_arc.specs.laws.Arcsine.{arcsine_answered}
use Rattle.coords_ecl.specs.rules.Arguments.{steep_frame_refusal}
use Rattle.coords_ecl.specs.rules.Point.{point_of}
use Rattle.coords_ecl.specs.rules.Ecliptic.{longitude_sum, longitude_in, latitude_sum, latitude_in, ecl_frm_eq_in, ecl_frm_eq_rule}
use Rattle.conditions.specs.notions.Mirror.{opposite_point}
use Rattle.conditions.specs.laws.Alike.{opposite_twice, refused_alike, arctangents_refused_alike}

-- ---- a longitude x and a latitude y as one point

point_mirror : (x y : Answer Rad) → point_of (both (with opposite x) (with opposite y)) ≡ with opposite_point (point_of (both x y))
unfolding point_of both then
point_mirror (answered l) (answered b) = refl
point_mirror (answered l) (refused n) = refl
point_mirror (refused n) y = refl

-- refused alike where its longitudes are and its latitudes are
points_refused_alike : (x y x' y' : Answer Rad) → ((k : ℕ) → x ≡ refused k → x' ≡ refused k) → ((k : ℕ) → x' ≡ refused k → x ≡ refused k)
    → ((k : ℕ) → y ≡ refused k → y' ≡ refused k) → (n : ℕ) → point_of (both x y) ≡ refused n → point_of (both x' y') ≡ refused n
unfolding point_of both then
points_refused_alike (refused j) y x' y' there here next n h = rw (there j refl) h
points_refused_alike (answered l) (answered b) x' y' there here next n h = absurd (refused_not_answered (sym h))
points_refused_alike (answered l) (refused j) (answered l') y' there here next n h = rw (next j refl) h
points_refused_alike (answered l) (refused j) (refused i) y' there here next n h = absurd (refused_not_answered (sym (here i refl)))

-- ---- the sums not zero

module _ (a d e : Rad) where
  long_sum_mirror : NonZero (longitude_sum a d e) → longitude_sum (opposite a) (opposite d) e ≡ neg (longitude_sum a d e)
  long_sum_mirror z =
      rw (sine_odd a, tangent_odd d, mul_neg_l binary64 (sine_of a) (cosine_of e), mul_neg_l binary64 (tangent_of d) (sine_of e))
      (add_neg_neg binary64 (sine_of a ⊗ cosine_of e) (tangent_of d ⊗ sine_of e) z)

  long_in_mirror : NonZero (longitude_sum a d e) → longitude_in (opposite a) (opposite d) e ≡ with opposite (longitude_in a d e)
  unfolding longitude_in
  long_in_mirror z = rw (long_sum_mirror z, cosine_even a) (arctangent_in_odd (longitude_sum a d e) (cosine_of a))

  lat_sum_mirror : NonZero (latitude_sum a d e) → latitude_sum (opposite a) (opposite d) e ≡ neg (latitude_sum a d e)
  lat_sum_mirror z =
      rw
      (sine_odd a, sine_odd d, cosine_even d, mul_neg_l binary64 (sine_of d) (cosine_of e), mul_neg_r binary64 (cosine_of d ⊗ sine_of e) (sine_of a))
      (sub_neg_neg binary64 (sine_of d ⊗ cosine_of e) (cosine_of d ⊗ sine_of e ⊗ sine_of a) z)

  lat_in_mirror : NonZero (latitude_sum a d e) → latitude_in (opposite a) (opposite d) e ≡ with opposite (latitude_in a d e)
  unfolding latitude_in
  lat_in_mirror z = rw (lat_sum_mirror z) (arcsine_in_odd (latitude_sum a d e))

  -- ecliptic longitude and latitude each change sign only
  pub ecliptic_mirror : NonZero (longitude_sum a d e) → NonZero (latitude_sum a d e)
      → ecl_frm_eq_rule (opposite a) (opposite d) e ≡ with opposite_point (ecl_frm_eq_rule a d e)
  unfolding ecl_frm_eq_in
  ecliptic_mirror z w =
      rw (angle_opposite a, steep_opposite d, long_in_mirror z, lat_in_mirror w, point_mirror (longitude_in a d e) (latitude_in a d e))
      (with_unless opposite_point (steep_frame_refusal a d e) (point_of (both (longitude_in a d e) (latitude_in a d e))))

-- ---- refused, whatever the sums

module _ (a d e : Rad) (k : ℕ) where
  long_sum_zero : is_zero (longitude_sum (opposite a) (opposite d) e) ≡ is_zero (longitude_sum a d e)
  long_sum_zero =
      rw (sine_odd a, tangent_odd d, mul_neg_l binary64 (sine_of a) (cosine_of e), mul_neg_l binary64 (tangent_of d) (sine_of e))
      (add_zero_neg binary64 (sine_of a ⊗ cosine_of e) (tangent_of d ⊗ sine_of e))

  long_in_refused : longitude_in a d e ≡ refused k → longitude_in (opposite a) (opposite d) e ≡ refused k
  unfolding longitude_in
  long_in_refused =
      arctangents_refused_alike (longitude_sum a d e) (cosine_of a) (longitude_sum (opposite a) (opposite d) e) (cosine_of (opposite a))
      (rw (long_sum_zero, cosine_even a)) k

  -- of a zero sum the latitude is not refused
  lat_in_refused : latitude_in a d e ≡ refused k → latitude_in (opposite a) (opposite d) e ≡ refused k
  unfolding latitude_in
  lat_in_refused h = by_case (is_zero (latitude_sum a d e)) refl
    where
      small : (s : Float) → T (is_zero s) → size s ≼ one
      small s z = le_trans (size s) zero one (size_of_zero s z) (unfold le of_bits in tt)

      by_case : (b : Bool) → is_zero (latitude_sum a d e) ≡ b → latitude_in (opposite a) (opposite d) e ≡ refused k
      by_case true z =
          absurd (refused_not_answered (sym h ∙ arcsine_answered (latitude_sum a d e) (small (latitude_sum a d e) (holds z))))
      by_case false z = lat_in_mirror a d e (fails z) ∙ ap (with opposite) h

module _ (a d e : Rad) where
  in_refused : (k : ℕ) → ecl_frm_eq_in a d e ≡ refused k → ecl_frm_eq_in (opposite a) (opposite d) e ≡ refused k
  unfolding ecl_frm_eq_in
  in_refused =
      points_refused_alike (longitude_in a d e) (latitude_in a d e) (longitude_in (opposite a) (opposite d) e)
      (latitude_in (opposite a) (opposite d) e)
      (long_in_refused a d e)
      (λ k h. rw (opposite_twice a, opposite_twice d) at (long_in_refused (opposite a) (opposite d) e k h))
      (lat_in_refused a d e)

  pub ecliptic_refused_there : (n : ℕ) → ecl_frm_eq_rule a d e ≡ refused n → ecl_frm_eq_rule (opposite a) (opposite d) e ≡ refused n
  ecliptic_refused_there n h =
      rw (angle_opposite a, steep_opposite d)
      (refused_alike (steep_frame_refusal a d e) n (ecl_frm_eq_in a d e) (ecl_frm_eq_in (opposite a) (opposite d) e) in_refused h)

pub ecliptic_refused_here : (a d e : Rad) (n : ℕ) → ecl_frm_eq_rule (opposite a) (opposite d) e ≡ refused n → ecl_frm_eq_rule a d e ≡ refused n
ecliptic_refused_here a d e n h = rw (opposite_twice a, opposite_twice d) at (ecliptic_refused_there (opposite a) (opposite d) e n h)
