-- What is known of an argument that is not refused, and of an answer that is none.
use Rattle.std.specs.Prelude.{◌≡◌, refl, ℕ, suc, ◌<◌, Bool, true, not, cond, T, eqb, leb, Float}
use Rattle.std.proofs.Common.{arith, eqb→eq, lit<}
use Rattle.std.proofs.Math.Bool.{false}
use Rattle.std.proofs.Math.Dec.{eqb-suc-zero}
use Rattle.std.proofs.lemmas.Bool.{eqb-false}
use Rattle.std.specs.Float.{nan, inf, fin, binary64}
use Rattle.std.specs.Float.Ieee.{lt, of_bits}
use Rattle.double.specs.rules.Operations.{◌⊖◌}
use Rattle.double.specs.rules.Sign.{size, is_finite}
use Rattle.double.specs.rules.Order.{◌≼◌, Finite, Between}
use Rattle.double.specs.laws.Sign.{finite_size}
use Rattle.double.specs.laws.Order.{le_of_not_lt}
use Rattle.double.specs.laws.Between.{between}
use Rattle.double.specs.laws.Fraction.{sub_rounds, rounds_not_nan}
use Rattle.quantity.specs.declared.Rad.{Rad}
use Rattle.quantity.specs.rules.Angle.{HALF}
use Rattle.quantity.specs.rules.Answer.{Answer, answered, refused, unless}
use Rattle.quantity.specs.rules.Refusal.{lower, number_refusal, past, outside, epoch, days_around, day_refusal, farthest, steepest, angle_refusal}
use Rattle.quantity.specs.rules.Refusal.{latitude_refusal, steep_refusal, least_distance, most_distance, distance_refusal, least_height, most_height}
use Rattle.quantity.specs.rules.Refusal.{height_refusal}

-- ---- numbers

-- the least of two numbers is none only where both are
pub lower_none : (a b : ℕ) → lower a b ≡ 0 → (a ≡ 0) × (b ≡ 0)
lower_none ℕ.zero b e = (refl, e)
lower_none (suc a) b e = by_case (eqb b 0) (eqb→eq b 0) (eqb-false b 0) (leb (suc a) b) (rw (eqb-suc-zero a) at e)
  where
    by_case : (t : Bool) → (T t → b ≡ 0) → (t ≡ false → b ≡ 0 → ⊥) → (u : Bool) → cond t (suc a) (cond u (suc a) b) ≡ 0
        → (suc a ≡ 0) × (b ≡ 0)
    by_case true p q u e = (e, p tt)
    by_case false p q true e = absurd (omega arith)
    by_case false p q false e = absurd (q refl e)

-- an answer was not refused
pub answered_unless : {A : Type 0} (n : ℕ) (a : Answer A) (v : A) → unless n a ≡ answered v → (n ≡ 0) × (a ≡ answered v)
answered_unless n a v e = by_case (eqb n 0) (eqb→eq n 0) e
  where
    by_case : (b : Bool) → (T b → n ≡ 0) → cond b a (refused n) ≡ answered v → (n ≡ 0) × (a ≡ answered v)
    by_case true p e = (p tt, e)
    by_case false p e = let z : ◌≡◌ {A = ℕ} 0 1 = cc in absurd (omega arith)

-- ---- arguments

pub number_accepted : (x : Float) → number_refusal x ≡ 0 → Finite x
number_accepted x e = by_case (is_finite x) e
  where
    by_case : (b : Bool) → ◌≡◌ {A = ℕ} (cond b 0 1) 0 → T b
    by_case true e = tt
    by_case false e = absurd (omega arith)

-- up to the limit in size
pub past_accepted : (x limit : Float) (n : ℕ) → 0 < n → Finite limit → past x limit n ≡ 0 → size x ≼ limit
past_accepted x limit n p q e = by_case (is_finite x) (lt limit (size x)) (λ t. t) (λ t. t) e
  where
    by_case : (b c : Bool) → (T b → Finite x) → (T (not c) → T (not (lt limit (size x)))) → cond b (cond c n 0) 1 ≡ 0 → size x ≼ limit
    by_case true true f l e = absurd (omega arith)
    by_case true false f l e = le_of_not_lt limit (size x) q (rw (finite_size x) (f tt)) (l tt)
    by_case false c f l e = absurd (omega arith)

-- between the two ends
pub outside_accepted : (x least most : Float) (n : ℕ) → 0 < n → Finite least → Finite most → outside x least most n ≡ 0
    → Between least most x
outside_accepted x least most n p q r e = by_case (is_finite x) (lt x least) (lt most x) (λ t. t) (λ t. t) (λ t. t) e
  where
    by_case : (b c d : Bool) → (T b → Finite x) → (T (not c) → T (not (lt x least))) → (T (not d) → T (not (lt most x)))
        → cond b (cond c n (cond d n 0)) 1 ≡ 0 → Between least most x
    by_case true true d f k l e = absurd (omega arith)
    by_case true false true f k l e = absurd (omega arith)
    by_case true false false f k l e = between q r (le_of_not_lt x least (f tt) q (k tt)) (le_of_not_lt most x r (f tt) (l tt))
    by_case false c d f k l e = absurd (omega arith)

pub angle_accepted : (x : Rad) → angle_refusal x ≡ 0 → size x.0 ≼ farthest
unfolding angle_refusal is_finite of_bits
angle_accepted x e = past_accepted x.0 farthest 3 (lit< tt) tt e

pub latitude_accepted : (x : Rad) → latitude_refusal x ≡ 0 → size x.0 ≼ HALF
unfolding latitude_refusal is_finite of_bits
latitude_accepted x e = past_accepted x.0 HALF 3 (lit< tt) tt e

pub steep_accepted : (x : Rad) → steep_refusal x ≡ 0 → size x.0 ≼ steepest
unfolding steep_refusal is_finite of_bits
steep_accepted x e = past_accepted x.0 steepest 4 (lit< tt) tt (lower_none (latitude_refusal x) (past x.0 steepest 4) e).1

pub distance_accepted : (x : Float) → distance_refusal x ≡ 0 → Between least_distance most_distance x
unfolding distance_refusal is_finite of_bits
distance_accepted x e = outside_accepted x least_distance most_distance 5 (lit< tt) tt tt e

pub height_accepted : (x : Float) → height_refusal x ≡ 0 → Between least_height most_height x
unfolding height_refusal is_finite of_bits
height_accepted x e = outside_accepted x least_height most_height 5 (lit< tt) tt tt e

-- a day's distance from the epoch is no NaN, and no infinity passes the test
pub day_accepted : (day : Float) → day_refusal day ≡ 0 → size (day ⊖ epoch) ≼ days_around
unfolding day_refusal is_finite of_bits
day_accepted day e = by_case (is_finite day) (lt days_around (size (day ⊖ epoch))) (λ t. t) (λ t. t) e
  where
    from_epoch : (d : Float) → (d ≡ nan → ⊥) → T (not (lt days_around (size d))) → size d ≼ days_around
    from_epoch nan n l = absurd (n refl)
    from_epoch (inf s) n l = absurd (unfold lt size of_bits in l)
    from_epoch (fin s m e) n l = le_of_not_lt days_around (size (fin s m e)) (unfold is_finite of_bits in tt) (unfold is_finite size in tt) l

    by_case : (b c : Bool) → (T b → Finite day) → (T (not c) → T (not (lt days_around (size (day ⊖ epoch)))))
        → ◌≡◌ {A = ℕ} (cond b (cond c 2 0) 1) 0 → size (day ⊖ epoch) ≼ days_around
    by_case true true f l e = absurd (omega arith)
    by_case true false f l e =
        from_epoch (day ⊖ epoch) (rounds_not_nan (sub_rounds binary64 day epoch (f tt) (unfold is_finite of_bits in tt)))
        (l tt)
    by_case false c f l e = absurd (omega arith)
