-- Roots of doubles from zero on are such doubles, and are not refused.
use Rattle.std.specs.Prelude.{◌≡◌, zero, ◌*◌, Bool, true, false, cond, T, pos, refl, Float}
use Rattle.std.proofs.Common.{sym, true≢false, zero-le, zero-mul, le-ltb}
use Rattle.std.specs.Float.{nan, inf, fin, binary64}
use Rattle.std.specs.Float.Ieee.{fits, up, lt, of_bits}
use Rattle.double.specs.rules.Operations as operations
use Rattle.double.specs.rules.Operations.{bits}
use Rattle.double.specs.rules.Sign.{bears_minus, is_finite}
use Rattle.quantity.specs.rules.Answer.{answered, unless}
use Rattle.double.specs.rules.Count.{IsFromZero, IsAboveZero}
use Rattle.root.specs.rules.Nearest.{twice_root_squared}
use Rattle.root.specs.rules.Root.{root_pattern, root_of, root_refusal, root_rule}
use Rattle.double.specs.laws.Patterns.{pattern_from_zero}
use Rattle.root.specs.laws.Normal.{above_zero_normal}
use Rattle.root.specs.laws.Nearest.{pattern_finite}

-- either zero
pub root_of_zero : (s : Bool) → root_of (fin s zero (pos zero)) ≡ fin s zero (pos zero)
unfolding root_of lt of_bits
root_of_zero true = refl
root_of_zero false = refl

-- so it fits binary64, is finite and bears no minus sign
pub root_from_zero : (x : Float) → IsFromZero x → IsFromZero (root_of x)
unfolding root_of
root_from_zero x d = go (lt operations.zero x) refl
  where
    go : (t : Bool) → lt operations.zero x ≡ t → IsFromZero (cond t (cond (is_finite x) (bits (root_pattern (twice_root_squared x))) x) x)
    go true l =
        let a : IsAboveZero x = record { held = d.held; finite = d.finite; above = l } in
        rw d.finite (pattern_from_zero (root_pattern (twice_root_squared x)) (pattern_finite (above_zero_normal x a).2))
    go false l = d

pub root_not_refused : (x : Float) → is_finite x ≡ true → bears_minus x ≡ false → root_refusal x ≡ 0
unfolding is_finite bears_minus lt of_bits
root_not_refused nan i s = absurd (true≢false (sym i))
root_not_refused (inf t) i s = absurd (true≢false (sym i))
root_not_refused (fin true m e) i s = absurd (true≢false s)
root_not_refused (fin false m e) i s = simp (zero-mul, le-ltb (m * up e * 1) 0 zero-le)

pub root_answered : (x : Float) → is_finite x ≡ true → bears_minus x ≡ false → root_rule x ≡ answered (root_of x)
unfolding root_rule
root_answered x i s = rw (root_not_refused x i s)

finite_root : (x : Float) → T (fits binary64 x) → is_finite x ≡ true → is_finite (root_of x) ≡ true
unfolding root_of
finite_root x held f = go (lt operations.zero x) refl
  where
    go : (t : Bool) → lt operations.zero x ≡ t → is_finite (cond t (cond (is_finite x) (bits (root_pattern (twice_root_squared x))) x) x) ≡ true
    go true l =
        let a : IsAboveZero x = record { held = held; finite = f; above = l } in
        rw f (pattern_from_zero (root_pattern (twice_root_squared x)) (pattern_finite (above_zero_normal x a).2)).finite
    go false l = f

-- no answered root is a NaN or an infinity
pub root_answers_finite : (x v : Float) → T (fits binary64 x) → root_rule x ≡ answered v → is_finite v ≡ true
unfolding root_rule
root_answers_finite x v held h = by-finite (is_finite x) refl h
  where
    by_sign : (u : Bool) → is_finite x ≡ true → unless (cond u 5 0) (answered (root_of x)) ≡ answered v → is_finite v ≡ true
    by_sign true f e = cc
    by_sign false f e = cc (finite_root x held f)

    by-finite : (t : Bool) → is_finite x ≡ t
        → unless (cond t (cond (lt x operations.zero) 5 0) 1) (answered (root_of x)) ≡ answered v → is_finite v ≡ true
    by-finite true f e = by_sign (lt x operations.zero) f e
    by-finite false f e = cc
