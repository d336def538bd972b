-- The one call is both angles asked for alone, joined: it answers exactly where both are answered, each angle has its bits, and the longitude's
-- refusal comes before the latitude's.
use Rattle.std.specs.Prelude.{ℕ, ◌≡◌, refl, Bool, true, false, cond, T, eqb}
use Rattle.std.proofs.Common.{sym, ap, ◌∙◌, eqb→eq}
use Rattle.quantity.specs.declared.Rad.{Rad}
use Rattle.quantity.specs.declared.EclPoint.{EclPoint}
use Rattle.quantity.specs.rules.Angle.{rad}
use Rattle.quantity.specs.rules.Answer.{Answer, answered, refused, unless, then, both}
use Rattle.quantity.specs.rules.Refusal.{lower, past, steepest, angle_refusal, latitude_refusal, steep_refusal}
use Rattle.quantity.specs.laws.Steps.{refused_not_answered, same_value}
use Rattle.quantity.specs.laws.Accepted.{lower_none}
use Rattle.coords_ecl.specs.rules.Arguments.{frame_refusal, steep_frame_refusal}
use Rattle.coords_ecl.specs.rules.Point.{point_of}
use Rattle.coords_ecl.specs.rules.Ecliptic.{longitude_in, latitude_in, ecl_frm_eq_in, ecl_frm_eq_rule}
use Rattle.coords_ecl.specs.notions.Alone.{longitude_alone, latitude_alone}

-- ---- a longitude x and a latitude y as one point

answers : (x y : Answer Rad) (l b : Rad) → x ≡ answered l → y ≡ answered b
    → point_of (both x y) ≡ answered (record { long = l.0; lat = b.0 })
unfolding point_of both then
answers x y l b p q = rw (p, q)

parts : (x y : Answer Rad) (p : EclPoint) → point_of (both x y) ≡ answered p
    → (x ≡ answered (rad p.long)) × (y ≡ answered (rad p.lat))
unfolding point_of both then
parts (answered l) (answered b) p h =
    (ap (λ (q : EclPoint). answered (rad q.long)) (same_value h), ap (λ (q : EclPoint). answered (rad q.lat)) (same_value h))
parts (answered l) (refused n) p h = absurd (refused_not_answered h)
parts (refused n) y p h = absurd (refused_not_answered h)

refused_first : (x y : Answer Rad) (n : ℕ) → x ≡ refused n → point_of (both x y) ≡ refused n
unfolding point_of both then
refused_first x y n p = rw p

refused_next : (x y : Answer Rad) (l : Rad) (n : ℕ) → x ≡ answered l → y ≡ refused n → point_of (both x y) ≡ refused n
unfolding point_of both then
refused_next x y l n p q = rw (p, q)

-- the arguments refused first: once by n, or the one by n and the other by m
joined : (n m : ℕ) (x y : Answer Rad) → (n ≡ 0 → m ≡ 0) → unless n (point_of (both x y)) ≡ point_of (both (unless n x) (unless m y))
unfolding point_of both then
joined n m x y h = by_case (eqb n 0) (eqb→eq n 0)
  where
    by_case : (t : Bool) → (T t → n ≡ 0) → cond t (point_of (both x y)) (refused n) ≡ point_of (both (cond t x (refused n)) (unless m y))
    by_case true p = rw (h (p tt))
    by_case false p = refl

-- ---- the one call

module _ (a d e : Rad) where
  not_refused : steep_frame_refusal a d e ≡ 0 → frame_refusal a d e ≡ 0
  unfolding steep_refusal
  not_refused none =
      let outer = lower_none (angle_refusal a) (lower (steep_refusal d) (angle_refusal e)) none in
      let inner = lower_none (steep_refusal d) (angle_refusal e) outer.1 in
      rw (outer.0, (lower_none (latitude_refusal d) (past d.0 steepest 4) inner.0).0, inner.1)

  pub ecl_frm_eq_joins : ecl_frm_eq_rule a d e ≡ point_of (both (longitude_alone a d e) (latitude_alone a d e))
  unfolding ecl_frm_eq_in longitude_in latitude_in
  ecl_frm_eq_joins = joined (steep_frame_refusal a d e) (frame_refusal a d e) (longitude_in a d e) (latitude_in a d e) not_refused

  pub answered_where_both : (l b : Rad) → longitude_alone a d e ≡ answered l → latitude_alone a d e ≡ answered b
      → ecl_frm_eq_rule a d e ≡ answered (record { long = l.0; lat = b.0 })
  answered_where_both l b p q = ecl_frm_eq_joins ∙ answers (longitude_alone a d e) (latitude_alone a d e) l b p q

  pub each_keeps_its_bits : (p : EclPoint) → ecl_frm_eq_rule a d e ≡ answered p
      → (longitude_alone a d e ≡ answered (rad p.long)) × (latitude_alone a d e ≡ answered (rad p.lat))
  each_keeps_its_bits p h = parts (longitude_alone a d e) (latitude_alone a d e) p (sym ecl_frm_eq_joins ∙ h)

  pub longitude_refused_first : (n : ℕ) → longitude_alone a d e ≡ refused n → ecl_frm_eq_rule a d e ≡ refused n
  longitude_refused_first n p = ecl_frm_eq_joins ∙ refused_first (longitude_alone a d e) (latitude_alone a d e) n p

  pub latitude_refused_next : (l : Rad) (n : ℕ) → longitude_alone a d e ≡ answered l → latitude_alone a d e ≡ refused n
      → ecl_frm_eq_rule a d e ≡ refused n
  latitude_refused_next l n p q = ecl_frm_eq_joins ∙ refused_next (longitude_alone a d e) (latitude_alone a d e) l n p q
