-- A fraction rounded: rounding hands the sign on, keeps zero zero, and makes no NaN.
use Rattle.std.specs.Prelude.{◌≡◌, ℕ, zero, suc, ◌+◌, ◌-◌, ◌*◌, ◌/◌, ◌%◌, ◌^◌, ◌<◌, Bool, true, false, cond, not, T, pos, ◌≢◌, nat_lt, refl, Float}
use Rattle.std.proofs.Common.{sym, ap, ◌∙◌, subst, zero-mul, arith, lt→ltb, pow_pos}
use Prim.Native.Nat.compare
use Prim.Native.Nat.{compare}
use Rattle.std.proofs.Math.Nat.{zero-div, zero-mod}
use Rattle.std.specs.Float.{inf, fin, Format}
use Rattle.std.specs.Float.Ieee.{prec, emax, low, size, nearest, odd, units, round, neg}
use Rattle.std.specs.Float.Ieee.Fits.{round_is}
use Rattle.double.specs.rules.Order.{Plus}

-- ---- the sign is handed on

odd_neg : (d : ℕ) (s : Bool) (q k l : ℕ) → odd d (not s) q k l ≡ neg (odd d s q k l)
unfolding odd neg
odd_neg d s zero k l = refl
odd_neg d s (suc q) k l = refl

units_neg : (f : Format) (s : Bool) (q k : ℕ) → units f (not s) q k ≡ neg (units f s q k)
unfolding units neg
units_neg f s q k = go (nat_lt (q * 2 ^ k) (2 ^ (low f + suc (emax f))))
  where
    go : (b : Bool)
        → cond b (odd (suc (prec f)) (not s) q k (low f)) (inf (not s)) ≡ neg (cond b (odd (suc (prec f)) s q k (low f)) (inf s))
    go true = odd_neg (suc (prec f)) s q k (low f)
    go false = refl

pub round_neg : (f : Format) (s : Bool) (a c : ℕ) → round f (not s) a c ≡ neg (round f s a c)
unfolding round
round_neg f s a c =
    let n = a * 2 ^ low f in
    let k = size (n / c) - prec f in
    let u = c * 2 ^ k in
    units_neg f s (nearest (n / u) (compare (n % u * 2) u)) k

-- ---- zero stays zero

odd_zero : (d : ℕ) (s : Bool) (q k l : ℕ) → q ≡ 0 → odd d s q k l ≡ fin s 0 (pos 0)
unfolding odd
odd_zero d s zero k l z = refl
odd_zero d s (suc q) k l z = absurd (no q z)
  where
    no : (q : ℕ) → suc q ≢ 0
    no q z = omega arith

nearest_zero : (q u : ℕ) → q ≡ 0 → nearest q (compare 0 u) ≡ 0
nearest_zero q zero z = even q z
  where
    even : (q : ℕ) → q ≡ 0 → q + q % 2 ≡ 0
    even q z = omega arith
nearest_zero q (suc u) z = ap (nearest q) (compare.zero-suc u) ∙ z

pub round_zero : (f : Format) (s : Bool) (c : ℕ) → round f s 0 c ≡ fin s 0 (pos 0)
unfolding round units
round_zero f s c =
    let n = 0 * 2 ^ low f in
    let k = size (n / c) - prec f in
    let u = c * 2 ^ k in
    let q = nearest (n / u) (compare (n % u * 2) u) in
    let N : n ≡ 0 = zero-mul (2 ^ low f) in
    let M : n / u ≡ 0 = ap (λ (z : ℕ). z / u) N ∙ zero-div u in
    let R : n % u * 2 ≡ 0 = ap (λ (z : ℕ). z % u * 2) N ∙ ap (λ (z : ℕ). z * 2) (zero-mod u) in
    let Q : q ≡ 0 = ap (λ (z : ℕ). nearest (n / u) (compare z u)) R ∙ nearest_zero (n / u) u M in
    let W : q * 2 ^ k ≡ 0 = ap (λ (z : ℕ). z * 2 ^ k) Q ∙ zero-mul (2 ^ k) in
    ap (λ (z : Float). cond (nat_lt (q * 2 ^ k) (2 ^ (low f + suc (emax f)))) z (inf s)) (odd_zero (suc (prec f)) s q k (low f) Q)
    ∙ pick (nat_lt (q * 2 ^ k) (2 ^ (low f + suc (emax f))))
    (lt→ltb (q * 2 ^ k) (2 ^ (low f + suc (emax f)))
    (subst (λ (z : ℕ). z < 2 ^ (low f + suc (emax f))) (sym W) (pow_pos (low f + suc (emax f)))))
  where
    pick : (b : Bool) → T b → cond b (fin s 0 (pos 0)) (inf s) ≡ fin s 0 (pos 0)
    pick true t = refl
    pick false t = absurd t

-- ---- a rounded fraction bears its plus sign

odd_plus : (d q k l : ℕ) → Plus (odd d false q k l)
unfolding odd
odd_plus d zero k l = tt
odd_plus d (suc q) k l = tt

units_plus : (f : Format) (q k : ℕ) → Plus (units f false q k)
unfolding units
units_plus f q k = go (nat_lt (q * 2 ^ k) (2 ^ (low f + suc (emax f))))
  where
    go : (b : Bool) → Plus (cond b (odd (suc (prec f)) false q k (low f)) (inf false))
    go true = odd_plus (suc (prec f)) q k (low f)
    go false = tt

pub round_plus : (f : Format) (a c : ℕ) → Plus (round f false a c)
round_plus f a c = rw (round_is f false a c) (units_plus f _ _)
