-- Statuses that the tally knows: of numbers, of what rules do with answers, and of the steps that stars' rules share.
use Rattle.std.specs.Prelude.{ℕ, ◌≤◌, Bool, true, false, cond, eqb, leb, Float}
use Rattle.std.proofs.Common.{arith}
use Rattle.std.specs.Float.Ieee.{lt}
use Rattle.double.specs.rules.Operations.{zero, one}
use Rattle.double.specs.rules.Sign.{size, is_finite}
use Rattle.quantity.specs.declared.Rad.{Rad}
use Rattle.quantity.specs.rules.Answer.{Answer, answered, refused, unless, then, plus, both, status_of}
use Rattle.quantity.specs.rules.Refusal.{lower, past, angle_refusal, latitude_refusal, steep_refusal}
use Rattle.root.specs.rules.Root.{root_rule, root_refusal}
use Rattle.elementary_arc.specs.rules.Arctangent.{both_zero, arctangent_in}
use Rattle.elementary_arc.specs.rules.Arcsine.{arcsine_in}
use Rattle.list_tally.specs.rules.Status.{highest_status}
use Rattle.list.specs.declared.Star.{Star}
use Rattle.list.specs.rules.Record.{in_range}
use Rattle.list.specs.rules.Stars.{is_kept}
use Rattle.star_place.specs.rules.Place.{dec_of}
use Rattle.star_store.specs.rules.Star.{star_refusal}

-- ---- numbers, and what rules do with answers

pub known_cond : (b : Bool) (m n : ℕ) → m ≤ highest_status → n ≤ highest_status → cond b m n ≤ highest_status
known_cond true m n p q = p
known_cond false m n p q = q

pub known_lower : (m n : ℕ) → m ≤ highest_status → n ≤ highest_status → lower m n ≤ highest_status
known_lower m n p q = known_cond (eqb m 0) n _ q (known_cond (eqb n 0) m _ p (known_cond (leb m n) m n p q))

known_past : (x limit : Float) (n : ℕ) → n ≤ highest_status → past x limit n ≤ highest_status
known_past x limit n p = known_cond (is_finite x) _ 1 (known_cond (lt limit (size x)) n 0 p (omega arith)) (omega arith)

module _ {A : Type 0} where
  pub known_choice : (b : Bool) (p q : Answer A) → status_of p ≤ highest_status → status_of q ≤ highest_status
      → status_of (cond b p q) ≤ highest_status
  known_choice true p q h k = h
  known_choice false p q h k = k

  pub known_unless : (n : ℕ) (a : Answer A) → n ≤ highest_status → status_of a ≤ highest_status → status_of (unless n a) ≤ highest_status
  known_unless n a p q = known_choice (eqb n 0) a (refused n) q p

  pub known_then : {B : Type 0} (a : Answer A) (f : A → Answer B) → status_of a ≤ highest_status → ((x : A) → status_of (f x) ≤ highest_status)
      → status_of (then a f) ≤ highest_status
  unfolding then
  known_then (answered x) f p q = q x
  known_then (refused n) f p q = p

pub known_plus : (a : Answer Rad) (z : Rad) → status_of a ≤ highest_status → status_of (plus a z) ≤ highest_status
unfolding plus
known_plus (answered x) z p = p
known_plus (refused n) z p = p

pub known_both : (a b : Answer Rad) → status_of a ≤ highest_status → status_of b ≤ highest_status → status_of (both a b) ≤ highest_status
unfolding both then
known_both (answered x) (answered y) p q = q
known_both (answered x) (refused n) p q = q
known_both (refused n) b p q = p

-- ---- the steps that stars' rules share

pub known_angle : (x : Rad) → angle_refusal x ≤ highest_status
unfolding angle_refusal
known_angle x = known_past _ _ 3 (omega arith)

pub known_latitude : (x : Rad) → latitude_refusal x ≤ highest_status
unfolding latitude_refusal
known_latitude x = known_past _ _ 3 (omega arith)

pub known_steep : (x : Rad) → steep_refusal x ≤ highest_status
unfolding steep_refusal
known_steep x = known_lower _ _ (known_latitude x) (known_past _ _ 4 (omega arith))

known_root : (x : Float) → status_of (root_rule x) ≤ highest_status
unfolding root_rule
known_root x =
    known_unless (root_refusal x) _
    (known_cond (is_finite x) _ 1 (known_cond (lt x zero) 5 0 (omega arith) (omega arith)) (omega arith)) (omega arith)

pub known_arctangent : (y x : Float) → status_of (arctangent_in y x) ≤ highest_status
unfolding arctangent_in
known_arctangent y x = known_choice (both_zero y x) (refused 14) _ (omega arith) (omega arith)

pub known_arcsine : (s : Float) → status_of (arcsine_in s) ≤ highest_status
unfolding arcsine_in
known_arcsine s =
    known_choice (lt one (size s)) (refused 7) _ (omega arith)
    (known_then _ _ (known_root _) (λ (r : Float). known_arctangent s r))

-- a star's own refusal, then what its place is answered
pub known_star : {A : Type 0} (star : Star) (years : Float) (a : Answer A) → status_of a ≤ highest_status
    → status_of (unless (star_refusal star years) a) ≤ highest_status
unfolding star_refusal
known_star star years a h =
    known_unless _ _
    (known_cond (is_kept star) _ 10 (known_cond (in_range star) _ 9 (known_latitude (dec_of star years)) (omega arith)) (omega arith))
    h
