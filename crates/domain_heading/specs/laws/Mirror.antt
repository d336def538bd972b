-- Negate the hour angle, and the azimuth changes sign only, the altitude stays, refusals are alike, and the two headings add to a whole turn
-- within 2^−44 degrees; or one is due north, and the other no more than so much from it.
use Rattle.std.specs.Prelude.{◌+◌, ◌-◌, ◌*◌, ◌≤◌, ◌≡◌, refl, ◌⊎◌, true, false, pos}
use Rattle.std.proofs.Common.{mul-pos, arith, sym, ap, subst, ◌∙◌, inl, inr}
use Rattle.std.specs.Float.Ieee.{Float, up, down, binary64, neg, add, le, of_bits}
use Rattle.std.specs.Float.{nan, inf, fin}
use Rattle.std.specs.Float.Ieee.Fits.{down_pos, add-fits}
use Rattle.double.specs.rules.Operations.{bits, zero, ◌⊕◌}
use Rattle.double.specs.rules.Sign.{is_finite}
use Rattle.double.specs.rules.Order.{◌≼◌, Finite, Between}
use Rattle.double.specs.notions.Range.{known, con, ◌⊞◌}
use Rattle.double.specs.laws.Sign.{neg_neg}
use Rattle.double.specs.laws.Order.{le→below}
use Rattle.double.specs.laws.Between.{between_cut, between_neg}
use Rattle.double.specs.laws.Fraction.{add_rounds}
use Rattle.double.specs.laws.Interval.{bounded}
use Rattle.double.specs.laws.Mirror.{mul_neg_l}
use Rattle.quantity.specs.declared.Deg.{Deg}
use Rattle.quantity.specs.declared.Rad.{Rad}
use Rattle.quantity.specs.rules.Angle.{deg, opposite}
use Rattle.quantity.specs.rules.Answer.{Answer, answered, refused, triple, with, then}
use Rattle.units.specs.rules.Degrees.{degrees_of_radian, to_degrees}
use Rattle.helpers.specs.rules.Angle.{turn_in_degrees}
use Rattle.coords.specs.rules.Horizon.{az_frm_eq_rule, alt_frm_eq_rule}
use Rattle.helpers.specs.rules.Circle.{half_turn, on_circle}
use Rattle.heading.specs.rules.Sky.{northward, bearings, sky_from, sky_in}
use Rattle.conditions.specs.laws.HourAngle.{azimuth_hour, altitude_hour}
use Rattle.domain_heading.specs.notions.Mirror.{mirrored, least, below_whole_turn, above_whole_turn, Across, adds_up, first_north, second_north}
use Rattle.domain_heading.specs.laws.Circle.{on_circle_cases}
use Rattle.domain_heading.specs.laws.WholeTurn.{sum_near}

-- ---- azimuth, altitude and refusals

degrees_opposite : (v : Rad) → to_degrees (opposite v) ≡ deg (neg (to_degrees v).0)
degrees_opposite v = ap deg (mul_neg_l binary64 v.0 degrees_of_radian)

bearings_opposite : (v w : Rad) → bearings (opposite v) w ≡ with mirrored (bearings v w)
unfolding bearings
bearings_opposite v w = ap (λ (y : Deg). answered (triple (northward y).0 y.0 (to_degrees w).0)) (degrees_opposite v)

of_both : (a b : Answer Rad) → then (with opposite a) (λ (az : Rad). then b (λ (alt : Rad). bearings az alt))
    ≡ with mirrored (then a (λ (az : Rad). then b (λ (alt : Rad). bearings az alt)))
unfolding then
of_both (answered v) (answered w) = bearings_opposite v w
of_both (answered v) (refused n) = refl
of_both (refused n) b = refl

pub sky_hour : (h d p : Rad) → sky_in (opposite h) d p ≡ with mirrored (sky_in h d p)
unfolding sky_in sky_from
sky_hour h d p = rw (azimuth_hour h d p, altitude_hour h d p) (of_both (az_frm_eq_rule h d p) (alt_frm_eq_rule h d p))

-- ---- the two headings

-- an azimuth and its opposite, each turned from south to north
abbrev there : Float → Float
there z = z ⊕ half_turn

turns_add : (z : Float) → Between (neg half_turn) half_turn z → Finite (there z) → Finite (there (neg z))
    → Between below_whole_turn above_whole_turn (there z ⊕ there (neg z))
unfolding neg is_finite of_bits
turns_add nan i A B = absurd i.finite
turns_add (inf s) i A B = absurd i.finite
turns_add (fin false m e) i A B =
    let z = fin false m e in
    let most : m * up e ≤ 180 * down e = omega (arith, le→below z half_turn tt tt i.to) in
    sum_near (there z) (there (neg z)) A B _ _ _ _ _ (mul-pos (down_pos e) (down_pos (pos 2))) (add_rounds binary64 z half_turn tt tt)
    (add_rounds binary64 (neg z) half_turn tt tt) (m * up e + 180 * down e) (180 * down e - m * up e) (omega arith) (omega (arith, most)) (omega (arith, most))
turns_add (fin true m e) i A B =
    let z = fin true m e in
    let most : m * up e ≤ 180 * down e = omega (arith, le→below (neg half_turn) z tt tt i.from) in
    sum_near (there z) (there (neg z)) A B _ _ _ _ _ (mul-pos (down_pos e) (down_pos (pos 2))) (add_rounds binary64 z half_turn tt tt)
    (add_rounds binary64 (neg z) half_turn tt tt) (180 * down e - m * up e) (m * up e + 180 * down e) (omega (arith, most)) (omega arith) (omega (arith, most))

-- 180 less 2^−44
abbrev near_north : Float
near_north = bits 0x40667ffffffffffe

in_turn_lem : (z : Float) → Between (neg half_turn) half_turn z → Between zero turn_in_degrees (there z)
unfolding is_finite le neg add of_bits
in_turn_lem z i = bounded binary64 zero turn_in_degrees (known i ⊞ con half_turn) tt

other_way_lem : (z : Float) → Between (neg half_turn) half_turn z → Between (neg half_turn) half_turn (neg z)
other_way_lem z i = subst (λ (y : Float). Between (neg half_turn) y (neg z)) (neg_neg half_turn) (between_neg i)

-- the sum rounds to a whole turn only within 2^−44 of it
other_north : (z : Float) → Between (neg half_turn) half_turn z → there z ≡ turn_in_degrees → there (neg z) ≼ least
unfolding is_finite le neg add of_bits
other_north z i e = by_case (between_cut near_north tt i)
  where
    by_case : Between (neg half_turn) near_north z ⊎ Between near_north half_turn z → there (neg z) ≼ least
    by_case (inl j) =
        let k : Between zero below_whole_turn (there z) = bounded binary64 zero below_whole_turn (known j ⊞ con half_turn) tt in
        absurd (subst (λ (y : Float). y ≼ below_whole_turn) e k.to)
    by_case (inr j) =
        let k : Between zero least (there (neg z)) = bounded binary64 zero least (known (between_neg j) ⊞ con half_turn) tt in
        k.to

zero_near : zero ≼ least
unfolding le of_bits
zero_near = tt

module _ (z : Float) (i : Between (neg half_turn) half_turn z) where
  pub headings_across : Across (northward (deg z)).0 (northward (deg (neg z))).0
  unfolding northward
  headings_across =
      by_case
      (on_circle_cases (there z) (add-fits binary64 z half_turn) (in_turn_lem z i))
      (on_circle_cases (there (neg z)) (add-fits binary64 (neg z) half_turn) (in_turn_lem (neg z) (other_way_lem z i)))
    where
      x : Float
      x = (on_circle (deg (there z))).0

      y : Float
      y = (on_circle (deg (there (neg z)))).0

      by_case : (x ≡ there z) ⊎ ((there z ≡ turn_in_degrees) × (x ≡ zero)) → (y ≡ there (neg z)) ⊎ ((there (neg z) ≡ turn_in_degrees) × (y ≡ zero))
          → Across x y
      by_case (inl h) (inl k) =
          adds_up
          (subst (Between below_whole_turn above_whole_turn) (sym (λ j. h j ⊕ k j))
          (turns_add z i (in_turn_lem z i).finite (in_turn_lem (neg z) (other_way_lem z i)).finite))
      by_case (inr h) (inl k) = first_north h.1 (subst (λ (v : Float). v ≼ least) (sym k) (other_north z i h.0))
      by_case (inr h) (inr k) = first_north h.1 (subst (λ (v : Float). v ≼ least) (sym k.1) zero_near)
      by_case (inl h) (inr k) =
          second_north
          (subst (λ (v : Float). v ≼ least) (sym (h ∙ ap there (sym (neg_neg z)))) (other_north (neg z) (other_way_lem z i) k.0))
          k.1
