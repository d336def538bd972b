-- `whole_root` finds the whole part of a root; there is one only; its digits can be found several at once.
use Rattle.std.specs.Prelude.{◌≡◌, ℕ, zero, suc, ◌+◌, ◌-◌, ◌*◌, ◌/◌, ◌^◌, ◌<◌, ◌≤◌, Bool, true, false, cond, ◌⊎◌, nat_le, nat_lt, refl}
use Rattle.std.proofs.Common.{sym, subst, inl, inr, lt_of_le_of_lt, le-div_iff_mul-le, div-lt_iff_lt-mul, mul-le-mul, mul-le-mul_left, mul-le-mul_right, mul-lt-mul_of_pos_right, leb-true, leb-false, lt-ltb, le-ltb}
use Rattle.std.proofs.Math.Nat.{lt_of_lt_of_le, le_of_mul-le-mul_left, pow-succ'}
use native.Mathlib.Omega.{arith}
use Rattle.root.specs.rules.Whole.{IsWholeRoot, longer, whole_root, IsDigit}
use Rattle.double.specs.laws.Numbers.{less_or_not, square_lt_back}
use Rattle.root.specs.notions.Steps.{taken, away}

longer_is : (n s : ℕ) → IsWholeRoot (n / 4) s → IsWholeRoot n (longer n s)
longer_is n s r = go (nat_le ((2 * s + 1) * (2 * s + 1)) n) (leb-true _ n) (leb-false _ n)
  where
    up : n < 4 * ((s + 1) * (s + 1))
    up = omega arith

    down : 4 * (s * s) ≤ n
    down = omega arith

    go : (t : Bool) → (t ≡ true → (2 * s + 1) * (2 * s + 1) ≤ n) → (t ≡ false → n < (2 * s + 1) * (2 * s + 1))
        → IsWholeRoot n (cond t (2 * s + 1) (2 * s))
    go true h k = record { under = h refl; over = omega arith }
    go false h k = record { under = omega arith; over = k refl }

pub whole_root_lem : (k n : ℕ) → n < 4 ^ k → IsWholeRoot n (whole_root k n)
unfolding whole_root
whole_root_lem zero n h = record { under = omega arith; over = omega arith }
whole_root_lem (suc k) n h = longer_is n (whole_root k (n / 4)) (whole_root_lem k (n / 4) (less n (4 ^ k) (rw (pow-succ' 4 k) at h)))
  where
    less : (n p : ℕ) → n < 4 * p → n / 4 < p
    less n p h = omega arith

pub whole_root_least : {n s : ℕ} (m : ℕ) → IsWholeRoot n s → m * m ≤ n → m ≤ s
whole_root_least {n} {s} m r h =
    let k : m < s + 1 = square_lt_back m (s + 1) (lt_of_le_of_lt h r.over) in
    omega arith

pub whole_root_most : {n s : ℕ} (m : ℕ) → IsWholeRoot n s → n < m * m → s < m
whole_root_most {n} {s} m r h = square_lt_back s m (lt_of_le_of_lt r.under h)

-- ---- a root rounded to nearest

-- r² − r < n ≤ r² + r: then n's root is less than a half from r, and the whole part of twice that root tells r
rounded_half : {n s : ℕ} (r : ℕ) → IsWholeRoot (4 * n) s → r * r < n + r → n ≤ r * r + r → r ≡ (s + 1) / 2
rounded_half {n} {s} zero w lo hi = omega arith
rounded_half {n} {s} (suc r) w lo hi =
    let least : 2 * r + 1 ≤ s = whole_root_least (2 * r + 1) w (omega arith) in
    let most : s < 2 * r + 3 = whole_root_most (2 * r + 3) w (omega arith) in
    omega arith

pub rounded_is : (d r : ℕ) → d < 2 ^ 54 → r * r < d * 2 ^ 52 + r → d * 2 ^ 52 ≤ r * r + r → r ≡ (whole_root 54 (d * 2 ^ 54) + 1) / 2
rounded_is d r h lo hi =
    let four : d * 2 ^ 54 ≡ 4 * (d * 2 ^ 52) = omega arith in
    rounded_half r (subst (λ (n : ℕ). IsWholeRoot n (whole_root 54 (d * 2 ^ 54))) four (whole_root_lem 54 (d * 2 ^ 54) (omega arith))) lo hi

-- ---- a recurrence of two digits

-- what a digit takes, without the quotient
module _ (left twice p t : ℕ) (some : 0 < p) where
  pub taken_under : taken twice p t ≤ left → twice * t * p + t * t ≤ left * p
  unfolding taken
  taken_under h = go (twice * t) _ (t * t) h ((div-lt_iff_lt-mul some).0 (less (twice * t) _ h))
    where
      less : (x c : ℕ) → x + c ≤ left → c < left - x + 1
      less x c h = omega arith

      parted : (x m y : ℕ) → x + m ≡ left → y + (p - 1) < (m + 1) * p → x * p + y ≤ left * p
      parted x m y e k = rw (sym e) (omega arith)

      go : (x c y : ℕ) → x + c ≤ left → y + (p - 1) < (left - x + 1) * p → x * p + y ≤ left * p
      go x c y h k = parted x (left - x) y (omega arith) k

  pub taken_over : left < taken twice p t → left * p < twice * t * p + t * t
  unfolding taken
  taken_over h = go (less_or_not left (twice * t))
    where
      before : (x y : ℕ) → left < x → left * p < x * p + y
      before x y l = lt_of_lt_of_le (mul-lt-mul_of_pos_right l some) (omega arith)

      parted : (x m y : ℕ) → x + m ≡ left → (m + 1) * p ≤ y + (p - 1) → left * p < x * p + y
      parted x m y e k = rw (sym e) (omega arith)

      less : (x c : ℕ) → x ≤ left → left < x + c → left - x + 1 ≤ c
      less x c l h = omega arith

      go : (left < twice * t) ⊎ (twice * t ≤ left) → left * p < twice * t * p + t * t
      go (inl l) = before (twice * t) (t * t) l
      go (inr l) = parted (twice * t) (left - twice * t) (t * t) (omega arith) ((le-div_iff_mul-le some).0 (less (twice * t) _ l h))

-- what takes less is less
pub digit_back : (twice p s t : ℕ) → twice * s * p + s * s < twice * t * p + t * t → s < t
digit_back twice p s t h = go (less_or_not s t)
  where
    less : (a b c d : ℕ) → a + b < c + d → c ≤ a → d ≤ b → ⊥
    less a b c d h l m = omega arith

    go : (s < t) ⊎ (t ≤ s) → s < t
    go (inl l) = l
    go (inr l) =
        absurd (less (twice * s * p) (s * s) (twice * t * p) (t * t) h (mul-le-mul_right p (mul-le-mul_left twice l)) (mul-le-mul l l))

-- there is one digit only
pub digit_only : {left twice p s t : ℕ} → IsDigit left twice p s → IsDigit left twice p t → s ≡ t
digit_only {twice = twice} {p = p} {s = s} {t = t} h k =
    let a : s < t + 1 = digit_back twice p s (t + 1) (lt_of_le_of_lt h.under k.over) in
    let b : t < s + 1 = digit_back twice p t (s + 1) (lt_of_le_of_lt k.under h.over) in
    omega arith

-- to mend a digit by one brings it nearer
pub some_digit : (left twice p t : ℕ) → left * p < twice * t * p + t * t → 0 < t
some_digit left twice p zero h = omega arith
some_digit left twice p (suc t) h = omega arith

pub away_down : (left twice p t : ℕ) → left * p < twice * t * p + t * t → away left twice p (t - 1) < away left twice p t
away_down left twice p t h =
    rw (lt-ltb (left * p) (twice * t * p + t * t) h)
    (go (nat_lt (left * p) (twice * (t - 1) * p + (t - 1) * (t - 1))) (some_digit left twice p t h))
  where
    go : (b : Bool) → 0 < t → cond b (2 ^ 30 + (t - 1)) (2 ^ 30 - (t - 1)) < 2 ^ 30 + t
    go true k = omega arith
    go false k = omega arith

pub away_up : (left twice p t : ℕ) → twice * t * p + t * t ≤ left * p → twice * (t + 1) * p + (t + 1) * (t + 1) ≤ left * p → t + 1 < 2 ^ 30
    → away left twice p (t + 1) < away left twice p t
away_up left twice p t h k room =
    rw (le-ltb (left * p) (twice * t * p + t * t) h, le-ltb (left * p) (twice * (t + 1) * p + (t + 1) * (t + 1)) k) (omega arith)

-- the first, of the root of d
pub first_digit : {d a : ℕ} → IsDigit d 0 1 a → IsWholeRoot d a
first_digit {d} {a} r = record {
  under = omega (arith, r.under);
  over = omega (arith, r.over);
}

-- a rest of at most a root is rounded down, and a larger one up
rest_down : (n q rest : ℕ) → q * q + rest ≡ n → 0 < q → rest ≤ q → (q * q < n + q) × (n ≤ q * q + q)
rest_down n q rest e some h = (omega arith, omega arith)

rest_up : (n q rest : ℕ) → q * q + rest ≡ n → q < rest → rest ≤ q + q
    → ((q + 1) * (q + 1) < n + (q + 1)) × (n ≤ (q + 1) * (q + 1) + (q + 1))
rest_up n q rest e h k = (omega arith, omega arith)

-- and the second: what is then left of d·2^52 without the square of a·2^24 + b says how the root is rounded
module _ {d a b : ℕ} (lo : 2 ^ 52 ≤ d) (hi : d < 2 ^ 54) (r : IsWholeRoot (d * 2 ^ 4) a) (s : IsDigit ((d * 2 ^ 4 - a * a) * 2 ^ 24) (a + a) (2 ^ 24) b) where
  abbrev q : ℕ
  q = a * 2 ^ 24 + b

  abbrev rest : ℕ
  rest = ((d * 2 ^ 4 - a * a) * 2 ^ 24 - (a + a) * b) * 2 ^ 24 - b * b

  least : 2 ^ 28 ≤ a
  least = whole_root_least (2 ^ 28) r (omega arith)

  pub second_most : b ≤ 2 ^ 24
  second_most = le_of_mul-le-mul_left {k = a + a} (omega (arith, s.under, r.over)) (omega (arith, least))

  pub first_fits : (a + a) * b ≤ (d * 2 ^ 4 - a * a) * 2 ^ 24
  first_fits = omega (arith, s.under)

  pub second_fits : b * b ≤ ((d * 2 ^ 4 - a * a) * 2 ^ 24 - (a + a) * b) * 2 ^ 24
  second_fits = omega (arith, s.under)

  rest_is : q * q + rest ≡ d * 2 ^ 52
  rest_is = omega (arith, r.under, first_fits, second_fits)

  pub rest_most : rest ≤ q + q
  rest_most = omega (arith, s.over)

  pub rounded_down : rest ≤ q → q ≡ (whole_root 54 (d * 2 ^ 54) + 1) / 2
  rounded_down h = let both = rest_down (d * 2 ^ 52) q rest rest_is (omega (arith, least)) h in rounded_is d q hi both.0 both.1

  pub rounded_up : q < rest → q + 1 ≡ (whole_root 54 (d * 2 ^ 54) + 1) / 2
  rounded_up h = let both = rest_up (d * 2 ^ 52) q rest rest_is h rest_most in rounded_is d (q + 1) hi both.0 both.1
