-- The digits say exactly what is below a day.
use Rattle.std.specs.Prelude.{ℕ, zero, suc, ◌+◌, ◌-◌, ◌*◌, ◌/◌, ◌%◌, ◌^◌, ◌≡◌, refl, Bool, true, false, cond, List, [], ◌∷◌, eqb, length}
use Rattle.std.proofs.Common.{sym, ap, ◌∙◌, pow-suc, arith, eqb-true}
use Rattle.text_number.specs.rules.Bytes.{digit0}
use Rattle.report_day.specs.rules.Digits.{whole_day, tenfold, digit_of, left_of, digits_text}
use Rattle.report_day.specs.notions.Worth.{worth, Ends}

-- what is left after a digit ends a digit earlier
next_ends : (n parts : ℕ) → Ends (suc n) (parts % whole_day) → Ends n (left_of parts % whole_day)
next_ends n parts e =
    let r = parts % whole_day in
    let d = tenfold parts / whole_day in
    let l = left_of parts % whole_day in
    let p = 2 ^ n in
    let split : l + d * whole_day ≡ r * 10 = omega arith in
    let times : l * p + d * p * whole_day ≡ r * p * 10 = spread l d r p split in
    let twice : r * (p * 2) + e.less * whole_day ≡ e.days * whole_day = ap (λ (q : ℕ). r * q + e.less * whole_day) (sym (pow-suc 2 n)) ∙ e.is in
    record { less = d * p + 5 * e.less; days = 5 * e.days; is = whole l d r p e.less e.days times twice }
  where
    spread : (l d r p : ℕ) → l + d * whole_day ≡ r * 10 → l * p + d * p * whole_day ≡ r * p * 10
    spread l d r p h = let g : (l + d * whole_day) * p ≡ r * 10 * p = ap (λ (k : ℕ). k * p) h in omega arith

    whole : (l d r p a b : ℕ) → l * p + d * p * whole_day ≡ r * p * 10 → r * (p * 2) + a * whole_day ≡ b * whole_day
        → l * p + (d * p + 5 * a) * whole_day ≡ 5 * b * whole_day
    whole l d r p a b h k = omega arith

-- for any digit and what follows it
one_more : (d t r l k : ℕ) → l + d * whole_day ≡ r * 10 → t * whole_day ≡ l * k → (d * k + t) * whole_day ≡ r * (k * 10)
one_more d t r l k h i = let g : (l + d * whole_day) * k ≡ r * 10 * k = ap (λ (q : ℕ). q * k) h in omega arith

last : (d r l : ℕ) → l + d * whole_day ≡ r * 10 → l ≡ 0 → (d * 1 + 0) * whole_day ≡ r * 10
last d r l h z = omega arith

pub digits_exact : (n parts : ℕ) → Ends n (parts % whole_day)
    → worth (digits_text n parts) * whole_day ≡ parts % whole_day * 10 ^ length (digits_text n parts)
unfolding digits_text worth
digits_exact zero parts e = let none : parts % whole_day ≡ 0 = omega (arith, e.is) in rw none
digits_exact (suc n) parts e = by_case (eqb (left_of parts) 0) refl (digits_exact n (left_of parts) (next_ends n parts e))
  where
    d : ℕ
    d = tenfold parts / whole_day

    t : List ℕ
    t = digits_text n (left_of parts)

    split : left_of parts % whole_day + d * whole_day ≡ parts % whole_day * 10
    split = omega arith

    digit : digit_of parts - digit0 ≡ d
    digit = omega arith

    by_case : (b : Bool) → eqb (left_of parts) 0 ≡ b → worth t * whole_day ≡ left_of parts % whole_day * 10 ^ length t
        → worth (digit_of parts ∷ cond b [] t) * whole_day ≡ parts % whole_day * 10 ^ length (digit_of parts ∷ cond b [] t)
    by_case true q i = rw digit (last d (parts % whole_day) (left_of parts % whole_day) split (ap (λ (k : ℕ). k % whole_day) (eqb-true _ _ q)))
    by_case false q i =
        rw (digit, pow-suc 10 (length t)) (one_more d (worth t) (parts % whole_day) (left_of parts % whole_day) (10 ^ length t) split i)

-- 32 digits suffice
pub all_digits_exact : (parts : ℕ) → worth (digits_text 32 parts) * whole_day ≡ parts % whole_day * 10 ^ length (digits_text 32 parts)
all_digits_exact parts = digits_exact 32 parts (record { less = 0; days = parts % whole_day; is = omega arith })
