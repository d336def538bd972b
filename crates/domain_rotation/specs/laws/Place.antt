-- A place under a rotation whose entries are at most 2 in size: its right ascension is half a turn at most, its declination a quarter; the
-- work meets 14 and 7 only, 14 exactly where the place has no direction, and 7 exactly where it has one and its height exceeds 1 in size.
use Rattle.std.specs.Prelude.{ℕ, ◌<◌, ◌≡◌, ◌↔◌, Bool, true, false, not, cond, ◌&&◌, T, Float}
use Rattle.std.proofs.Math.Path.{refl}
use Rattle.std.proofs.Common.{inl, inr, arith, lit<}
use Rattle.std.specs.Float.Ieee.{neg, add, mul, le, lt, of_bits, round}
use Rattle.double.specs.rules.Operations.{one}
use Rattle.double.specs.rules.Sign.{is_finite, size}
use Rattle.double.specs.rules.Order.{Between, Finite}
use Rattle.double.specs.notions.Range.{Expr, known, ◌⊞◌, ◌⊠◌}
use Rattle.std.specs.Float.Ieee.Bits.{is_true}
use Rattle.quantity.specs.declared.Rad.{Rad}
use Rattle.quantity.specs.rules.Angle.{PI, HALF}
use Rattle.quantity.specs.rules.Answer.{Answer, Pair, pair, answered, refused, then, both}
use Rattle.quantity.specs.rules.Refusal.{angle_refusal, latitude_refusal}
use Rattle.quantity.specs.laws.Steps.{same_number, with_refused}
use Rattle.elementary.specs.declared.Direction.{Direction}
use Rattle.elementary.specs.rules.Direction.{direction_of}
use Rattle.elementary_arc.specs.rules.Arctangent.{both_zero, arctangent_of, arctangent_in}
use Rattle.elementary_arc.specs.rules.Arcsine.{arcsine_in}
use Rattle.elementary_arc.specs.laws.Arcsine.{arcsine_refuses_seven, arcsine_never_meets_fourteen}
use Rattle.domain_accepted.specs.laws.Accepted.{angle_sine, angle_cosine, latitude_sine, latitude_cosine}
use Rattle.domain_accepted.specs.notions.Outcome.{Outcome, SevenOrFourteen}
use Rattle.domain_accepted.specs.notions.Within.{Within}
use Rattle.domain_accepted.specs.laws.Near.{within}
use Rattle.domain_accepted.specs.laws.Outcome.{outcome_both}
use Rattle.domain_accepted.specs.laws.Elementary.{arctangent_outcome, arcsine_outcome}
use Rattle.domain.specs.laws.Elementary.{fourteen_of_zeros}
use Rattle.rotation.specs.rules.Matrix.{Vector, Matrix, applied, part}
use Rattle.rotation.specs.rules.Place.{vector_of, place_along, turned, rotated_in}
use Rattle.domain_rotation.specs.notions.Entries.{Components, Entries, UpToOne}
use Rattle.domain_rotation.specs.notions.Star.{IsRotated, turned_nowhere, turned_too_high}
use Rattle.domain_rotation.specs.laws.Matrix.{part_at, entry_at, up_to_one}

-- ---- a matrix applied

module _ (m : Matrix) (v : Vector) (M : Entries (Within 2) m) (U : Components UpToOne v) where
  abbrev row_expr : (i : ℕ) → i < 3 → Expr
  row_expr i h =
      (known (entry_at (Within 2) m M i 0 h (lit< tt)) ⊠ known (part_at UpToOne v U 0 (lit< tt)) ⊞ known (entry_at (Within 2) m M i 1 h (lit< tt)) ⊠ known (part_at UpToOne v U 1 (lit< tt)))
      ⊞ known (entry_at (Within 2) m M i 2 h (lit< tt)) ⊠ known (part_at UpToOne v U 2 (lit< tt))

  applied_within : Components (Within 8) (applied m v)
  unfolding applied is_finite le neg add mul of_bits round
  applied_within = (
    within 8 (row_expr 0 (lit< tt)) tt,
    (within 8 (row_expr 1 (lit< tt)) tt, (within 8 (row_expr 2 (lit< tt)) tt, tt)),
  )

-- ---- 7 of two arcs

arcsine_high : (s : Float) → T (lt one (size s)) → arcsine_in s ≡ refused 7
unfolding arcsine_in
arcsine_high s t = rw (is_true (lt one (size s)) t)

fourteen_not_seven : ◌≡◌ {A = Answer Pair} (refused 14) (refused 7) → ⊥
fourteen_not_seven e = omega (arith, same_number e)

seven_of_height : (y x s : Float) → Finite s → both (arctangent_in y x) (arcsine_in s) ≡ refused 7 ↔ T (not (both_zero y x) && lt one (size s))
unfolding arctangent_in both then
seven_of_height y x s f = by_case (both_zero y x)
  where
    by_case : (b : Bool) → both (cond b (refused 14) (answered (arctangent_of y x))) (arcsine_in s) ≡ refused 7 ↔ T (not b && lt one (size s))
    by_case true = (λ e. absurd (fourteen_not_seven e), λ t. absurd t)
    by_case false = (
      λ e. (arcsine_refuses_seven s f 7 (with_refused (arcsine_in s) (λ (v : Rad). pair (arctangent_of y x).0 v.0) 7 e)).1,
      λ t. rw (arcsine_high s t),
    )

-- ---- the place

module _ (m : Matrix) (asc dec : Rad) (M : Entries (Within 2) m) (A : angle_refusal asc ≡ 0) (D : latitude_refusal dec ≡ 0) where
  abbrev d : Direction
  d = direction_of (record { asc = asc.0; dec = dec.0 })

  abbrev w : Vector
  w = turned m asc dec

  vector_within : Components UpToOne (vector_of d)
  unfolding vector_of direction_of is_finite le neg add mul of_bits round
  vector_within =
      let cd = known (latitude_cosine dec D) in (
        up_to_one (cd ⊠ known (angle_cosine asc A)) tt,
        (up_to_one (cd ⊠ known (angle_sine asc A)) tt, (latitude_sine dec D, tt)),
      )

  component_finite : (i : ℕ) → i < 3 → Finite (part w i)
  component_finite i h = (part_at (Within 8) w (applied_within m (vector_of d) M vector_within) i h).finite

  pub rotated_outcome : Outcome IsRotated SevenOrFourteen (rotated_in m asc dec)
  unfolding rotated_in place_along
  rotated_outcome =
      outcome_both (Between (neg PI) PI) (Between (neg HALF) HALF) (arctangent_in (part w 1) (part w 0)) (arcsine_in (part w 2))
      (arctangent_outcome (inr refl) (part w 1) (part w 0) (component_finite 1 (lit< tt)) (component_finite 0 (lit< tt)))
      (arcsine_outcome (inl refl) (part w 2) (component_finite 2 (lit< tt)))

  pub rotated_fourteen : rotated_in m asc dec ≡ refused 14 ↔ T (turned_nowhere m asc dec)
  unfolding rotated_in place_along both then
  rotated_fourteen =
      fourteen_of_zeros (part w 1) (part w 0) (λ (a : Answer Rad). both a (arcsine_in (part w 2))) refl
      (λ v e. arcsine_never_meets_fourteen (part w 2) (with_refused (arcsine_in (part w 2)) (λ (y : Rad). pair v.0 y.0) 14 e))

  pub rotated_seven : rotated_in m asc dec ≡ refused 7 ↔ T (turned_too_high m asc dec)
  unfolding rotated_in place_along
  rotated_seven = seven_of_height (part w 1) (part w 0) (part w 2) (component_finite 2 (lit< tt))
