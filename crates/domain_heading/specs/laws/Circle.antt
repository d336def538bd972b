-- Degrees on the circle: what is folded lies from 0 to below 360, and what lies there stays; a whole turn is 0.
use Rattle.std.specs.Prelude.{ℕ, suc, ◌+◌, ◌*◌, ◌≤◌, ◌<◌, ◌≡◌, ◌⊎◌, Bool, not, ℤ, pos, Float}
use Rattle.std.proofs.Common.{mul-pos, mod-eq_of_lt, arith, ap, subst, ◌∙◌, inl, inr, ltb→lt, ne_eqb}
use Rattle.std.proofs.Math.Path.{refl}
use Rattle.std.proofs.Math.Bool.{true, false, cond}
use Rattle.std.proofs.Math.Dec.{T}
use Rattle.std.specs.Float.{nan, inf, fin, binary64}
use Rattle.std.specs.Float.Ieee.{up, down, fits, lt, le, rem, of_bits}
use Rattle.std.specs.Float.Ieee.Fits.{down_pos}
use Rattle.std.specs.Float.Ieee.Positive.{positive}
use Rattle.std.specs.Float.Ieee.Scale.{round_same}
use Rattle.double.specs.rules.Operations.{zero, ◌⊕◌}
use Rattle.double.specs.rules.Sign.{is_finite}
use Rattle.double.specs.rules.Order.{◌≼◌, Finite, Between}
use Rattle.double.specs.laws.Tests.{by_test}
use Rattle.double.specs.laws.Order.{le→below, le_of_not_lt, not_lt_of_le}
use Rattle.double.specs.laws.Between.{between, plus_of_positive, finite_zero}
use Rattle.double.specs.laws.Exact.{round_own, squeezed}
use Rattle.quantity.specs.declared.Deg.{Deg}
use Rattle.quantity.specs.rules.Angle.{deg}
use Rattle.helpers.specs.rules.Angle.{limited, turn_in_degrees, within360}
use Rattle.helpers.specs.laws.Limit.{limited_degrees}
use Rattle.helpers.specs.rules.Circle.{below_turn, on_circle}
use Rattle.heading.specs.notions.Computed.{computed}
use Rattle.domain_heading.specs.notions.Circle.{IsHeading}

-- ---- the fold of what lies below a turn

-- a remainder by more than a number is that number
rem_small : (s : Bool) (m n : ℕ) (e d : ℤ) → T (fits binary64 (fin s m e)) → m * up e * down d < n * up d * down e
    → rem binary64 (fin s m e) (fin false n d) ≡ fin s m e
unfolding rem
rem_small s m n e d F l =
    rw (ne_eqb n 0 some, mod-eq_of_lt l)
    (round_same binary64 s (m * up e * down d) (down e * down d) (m * up e) (down e) (mul-pos (down_pos e) (down_pos d)) (down_pos e) (level (m * up e) (down d) (down e))
    ∙ round_own binary64 s m e F)
  where
    none : (a u v : ℕ) → a < 0 * u * v → ⊥
    none a u v h = omega arith

    some : n ≡ 0 → ⊥
    some z = none (m * up e * down d) (up d) (down e) (subst (λ (k : ℕ). m * up e * down d < k * up d * down e) z l)

    level : (a u v : ℕ) → a * u * v ≡ a * (v * u)
    level a u v = omega arith

rem_stays : (x y : Float) → T (fits binary64 x) → T (positive y) → Finite x → zero ≼ x → T (lt x y) → rem binary64 x y ≡ x
unfolding lt is_finite
rem_stays nan y F p q z l = absurd q
rem_stays (inf s) y F p q z l = absurd q
rem_stays (fin s m e) nan F p q z l = absurd p
rem_stays (fin s m e) (inf t) F p q z l = absurd p
rem_stays (fin s m e) (fin true n d) F p q z l = absurd p
rem_stays (fin false m e) (fin false n d) F p q z l = rem_small false m n e d F (ltb→lt (m * up e * down d) (n * up d * down e) l)
rem_stays (fin true m e) (fin false n d) F p q z l =
    rem_small true m n e d F (less (m * up e) (down d) (n * up d * down e) (none z) (ltb→lt 0 (m * up e * down d + n * up d * down e) l))
  where
    none : zero ≼ fin true m e → m * up e ≤ 0
    none h = unfold of_bits in omega (arith, le→below (fin false 0 (pos 0)) (fin true m e) tt tt h)

    less : (a u b : ℕ) → a ≤ 0 → 0 < a * u + b → a * u < b
    less ℕ.zero u b h l = omega arith
    less (suc a) u b h l = absurd (omega arith)

limited_stays : (x full : Float) → T (fits binary64 x) → T (positive full) → Finite x → zero ≼ x → T (lt x full) → limited x full ≡ x
unfolding limited
limited_stays x full F p q z l = rw (rem_stays x full F p q z l) (by_case (lt x zero) (x ⊕ full) (not_lt_of_le zero x finite_zero q z))
  where
    by_case : (b : Bool) (y : Float) → T (not b) → cond b y x ≡ x
    by_case true y t = absurd t
    by_case false y t = refl

-- ---- on the circle

pub on_circle_stays : (x : Float) → T (fits binary64 x) → Finite x → zero ≼ x → T (lt x turn_in_degrees) → on_circle (deg x) ≡ deg x
unfolding on_circle below_turn
on_circle_stays x F q z l =
    rw (limited_stays x turn_in_degrees F (unfold of_bits in tt) q z l) (by_case (lt x turn_in_degrees) l)
  where
    by_case : (b : Bool) → T b → cond b (deg x) (deg zero) ≡ deg x
    by_case true t = refl
    by_case false t = absurd t

-- a whole turn is 0
pub on_circle_turn : on_circle (deg turn_in_degrees) ≡ deg zero
unfolding computed
on_circle_turn = refl

-- what lies from 0 to a turn stays, or is the turn
pub on_circle_cases : (x : Float) → T (fits binary64 x) → Between zero turn_in_degrees x
    → ((on_circle (deg x)).0 ≡ x) ⊎ ((x ≡ turn_in_degrees) × ((on_circle (deg x)).0 ≡ zero))
on_circle_cases x F i = by_case (lt x turn_in_degrees) (λ t. t) (λ t. t)
  where
    whole : turn_in_degrees ≼ x → x ≡ turn_in_degrees
    whole h =
        squeezed turn_in_degrees x (unfold fits of_bits in tt) F (unfold of_bits in tt) (plus_of_positive turn_in_degrees x (unfold of_bits in tt) h)
        (between i.end i.end h i.to)

    by_case : (b : Bool) → (T b → T (lt x turn_in_degrees)) → (T (not b) → T (not (lt x turn_in_degrees)))
        → ((on_circle (deg x)).0 ≡ x) ⊎ ((x ≡ turn_in_degrees) × ((on_circle (deg x)).0 ≡ zero))
    by_case true h k = inl (ap (λ (y : Deg). y.0) (on_circle_stays x F i.finite i.from (h tt)))
    by_case false h k =
        let e = whole (le_of_not_lt x turn_in_degrees i.finite i.end (k tt)) in
        inr (e, ap (λ (y : Float). (on_circle (deg y)).0) e ∙ ap (λ (y : Deg). y.0) on_circle_turn)

zero_is_heading : IsHeading zero
unfolding is_finite le lt of_bits
zero_is_heading = record { finite = tt; from = tt; below = tt }

-- every finite number of degrees comes to lie on the circle
pub on_circle_within : (x : Float) → Finite x → IsHeading (on_circle (deg x)).0
unfolding on_circle below_turn
on_circle_within x q =
    let i = limited_degrees x q in
    by_test (λ (y : Deg). IsHeading y.0) (lt (limited x turn_in_degrees) turn_in_degrees) (within360 (deg x)) (deg zero)
    (λ t. record { finite = i.finite; from = i.from; below = t }) (λ t. zero_is_heading)
