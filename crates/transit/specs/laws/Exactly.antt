-- Of arguments that are not refused, 15 is given exactly where the quotient exceeds 1, and 16 exactly where it is below −1.
use Rattle.std.specs.Prelude.{ℕ, ◌≤◌, ◌≡◌, Bool, true, false, not, cond, ◌↔◌, T, Float}
use Rattle.std.proofs.Common.{arith, sym}
use Rattle.std.proofs.Math.Path.{refl}
use Rattle.std.specs.Float.{nan, inf, fin}
use Rattle.std.specs.Float.Ieee.{neg, lt}
use Rattle.std.specs.Float.Ieee.Bits.{is_true, is_false}
use Rattle.double.specs.rules.Operations.{one}
use Rattle.double.specs.rules.Sign.{is_finite}
use Rattle.double.specs.laws.Order.{le_of_lt, le_trans, not_lt_of_le}
use Rattle.double.specs.laws.Between.{finite_one}
use Rattle.quantity.specs.declared.Rad.{Rad}
use Rattle.quantity.specs.declared.EqPoint.{EqPoint}
use Rattle.quantity.specs.declared.GeographPoint.{GeographPoint}
use Rattle.quantity.specs.rules.Angle.{rad, HALF}
use Rattle.quantity.specs.rules.Answer.{Answer, answered, refused, Triple, then, taken_from}
use Rattle.quantity.specs.laws.Steps.{same_number, refused_not_answered}
use Rattle.elementary_arc.specs.rules.Arcsine.{arcsine_in}
use Rattle.elementary_arc.specs.laws.Arcsine.{arcsine_refuses_seven}
use Rattle.transit.specs.rules.Arc.{arc_cosine, arc_in}
use Rattle.transit.specs.rules.RiseCulmSet.{culmination_of, fractions, rise_culm_set_in, rise_culm_set_refusal, rise_culm_set_rule}
use Rattle.transit.specs.notions.Computed.{computed}

-- ---- the quotient

-- what is below −1 does not exceed 1
not_above : (x : Float) → T (lt x (neg one)) → T (not (lt one x))
unfolding computed is_finite
not_above nan h = tt
not_above (inf true) h = tt
not_above (inf false) h = absurd h
not_above (fin s m e) h =
    not_lt_of_le (fin s m e) one tt finite_one (le_trans (fin s m e) (neg one) one (le_of_lt (fin s m e) (neg one) h) tt)

-- its arcsine gives 7, or 1 of a NaN
arcsine_refuses : (x : Float) (n : ℕ) → arcsine_in x ≡ refused n → n ≤ 7
unfolding computed is_finite
arcsine_refuses nan n e = let q : 1 ≡ n = same_number e in omega arith
arcsine_refuses (inf s) n e = let q : 7 ≡ n = same_number e in omega arith
arcsine_refuses (fin s m d) n e = let q = (arcsine_refuses_seven (fin s m d) tt n e).0 in omega arith

-- ---- the work, of the two tests, the arcsine and the culmination

abbrev work : Bool → Bool → Answer Rad → Float → Answer Triple
work b c a m = then (cond b (refused 15) (cond c (refused 16) (taken_from (rad HALF) a))) (λ (arc : Rad). fractions m arc)

tests_only : (b c : Bool) (a : Answer Rad) (m : Float) → ((n : ℕ) → a ≡ refused n → n ≤ 7) → (n : ℕ) → work b c a m ≡ refused n
    → (n ≡ 15 → T b) × (n ≡ 16 → T c)
unfolding then fractions taken_from
tests_only true c a m s n e = (λ p. tt, λ p. let q : 15 ≡ n = same_number e in absurd (omega arith))
tests_only false true a m s n e = (λ p. let q : 16 ≡ n = same_number e in absurd (omega arith), λ p. tt)
tests_only false false (answered v) m s n e = absurd (refused_not_answered (sym e))
tests_only false false (refused k) m s n e =
    let q : k ≡ n = same_number e in
    let r = s k refl in
    (λ p. absurd (omega arith), λ p. absurd (omega arith))

module _ (p : EqPoint) (sidereal : Rad) (site : GeographPoint) (alt : Rad) (none : rise_culm_set_refusal p sidereal site alt ≡ 0) where
  abbrev quotient : Float
  quotient = arc_cosine (rad p.dec) (rad site.lat) alt

  only : (n : ℕ) → rise_culm_set_rule p sidereal site alt ≡ refused n → (n ≡ 15 → T (lt one quotient)) × (n ≡ 16 → T (lt quotient (neg one)))
  unfolding rise_culm_set_in arc_in
  only n e =
      tests_only (lt one quotient) (lt quotient (neg one)) (arcsine_in quotient) (culmination_of (rad p.asc) sidereal (rad site.long))
      (arcsine_refuses quotient) n (rw none at e)

  pub never_rises : rise_culm_set_rule p sidereal site alt ≡ refused 15 ↔ T (lt one quotient)
  unfolding rise_culm_set_in arc_in then
  never_rises = (λ e. (only 15 e).0 refl, λ h. rw (none, is_true (lt one quotient) h))

  pub never_sets : rise_culm_set_rule p sidereal site alt ≡ refused 16 ↔ T (lt quotient (neg one))
  unfolding rise_culm_set_in arc_in then
  never_sets =
      (λ e. (only 16 e).1 refl, λ h. rw (none, is_false (lt one quotient) (not_above quotient h), is_true (lt quotient (neg one)) h))
