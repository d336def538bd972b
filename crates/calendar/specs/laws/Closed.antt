-- The counts without counting are the counts.
use Rattle.std.specs.Prelude.{◌≡◌, ℕ, zero, suc, ◌+◌, ◌-◌, ◌*◌, ◌/◌, ◌%◌, ◌<◌, ◌≤◌, Bool, true, false, cond, T, leb, ◌==◌, ◌≢◌, nat_eq, nat_le, nat_lt, refl}
use Rattle.std.proofs.Common.{sym, ap, ◌∙◌, arith, eqb→eq, leb→le, eqb-true, leb-true, leb-false, ltb-true, ltb-false, le-leb, eq-eqb, ne_eqb}
use Rattle.std.proofs.lemmas.Bool.{eqb-false, lt-leb}
use Rattle.calendar.specs.declared.Date.{Date}
use Rattle.calendar.specs.rules.Date.{leap, Valid, month_length, year_length, total, days_before, days_before_year}
use Rattle.calendar.specs.notions.Closed.{length_by, before_by, year_by}
use Rattle.calendar.specs.laws.Every.{every_at}

-- ---- months

pub length_by_lem : (l : Bool) (m : ℕ) → 1 ≤ m → m ≤ 12 → month_length l m ≡ length_by l m
unfolding month_length
length_by_lem l zero f t = elim f [ ]
length_by_lem l (suc m) f t = eqb→eq _ _ (at l)
  where
    at : (l : Bool) → T (month_length l (suc m) == length_by l (suc m))
    at true = every_at (λ (m : ℕ). nat_eq (month_length true (suc m)) (length_by true (suc m))) 12 m tt (omega arith)
    at false = every_at (λ (m : ℕ). nat_eq (month_length false (suc m)) (length_by false (suc m))) 12 m tt (omega arith)

pub before_by_lem : (l : Bool) (m : ℕ) → 1 ≤ m → m ≤ 12 → days_before l m ≡ before_by l m
unfolding days_before total month_length
before_by_lem l zero f t = elim f [ ]
before_by_lem l (suc m) f t = eqb→eq _ _ (at l)
  where
    at : (l : Bool) → T (days_before l (suc m) == before_by l (suc m))
    at true = every_at (λ (m : ℕ). nat_eq (days_before true (suc m)) (before_by true (suc m))) 12 m tt (omega arith)
    at false = every_at (λ (m : ℕ). nat_eq (days_before false (suc m)) (before_by false (suc m))) 12 m tt (omega arith)

-- as the code goes
module _ (l : Bool) (m : ℕ) where
  pub before_early : 1 ≤ m → m ≤ 2 → (367 * m - 362) / 12 ≡ days_before l m
  before_early f t = sym (before_by_lem l m f (omega arith) ∙ rw (le-leb m 2 t))

  pub before_late : 2 < m → m ≤ 12 → cond l ((367 * m - 362) / 12 - 1) ((367 * m - 362) / 12 - 2) ≡ days_before l m
  before_late f t = sym (before_by_lem l m (omega arith) t ∙ rw (lt-leb m 2 f))

  pub february : m ≡ 2 → cond l 29 28 ≡ month_length l m
  february e = sym (length_by_lem l m (omega arith) (omega arith) ∙ rw (eq-eqb m 2 e))

  pub other : (m ≢ 2) → 1 ≤ m → m ≤ 12 → 30 + (m + m / 8) % 2 ≡ month_length l m
  other e f t = sym (length_by_lem l m f t ∙ rw (ne_eqb m 2 e))

past : (l : Bool) (k : ℕ) → month_length l (suc (suc (suc (suc (suc (suc (suc (suc (suc (suc (suc (suc (suc k))))))))))))) ≡ 0
unfolding month_length
past l k = refl

pub month_after : (l : Bool) (m : ℕ) → 12 < m → 0 ≡ month_length l m
month_after l m h =
    let split : m ≡ (suc (suc (suc (suc (suc (suc (suc (suc (suc (suc (suc (suc (suc (m - 13)))))))))))))) = omega arith in
    sym (ap (month_length l) split ∙ past l (m - 13))

pub month_zero : (l : Bool) (m : ℕ) → m < 1 → 0 ≡ month_length l m
unfolding month_length
month_zero l zero h = refl
month_zero l (suc m) h = absurd (omega arith)

pub no_month_past : (l : Bool) (m : ℕ) → 1 ≤ month_length l m → m ≤ 12
no_month_past l m h = by_case (nat_le m 12) refl
  where
    by_case : (b : Bool) → nat_le m 12 ≡ b → m ≤ 12
    by_case true e = leb-true m 12 e
    by_case false e =
        let far = leb-false m 12 e in
        let split : m ≡ (suc (suc (suc (suc (suc (suc (suc (suc (suc (suc (suc (suc (suc (m - 13)))))))))))))) = omega arith in
        absurd (omega (arith, ap (month_length l) split, past l (m - 13)))

pub month_from : (l : Bool) (m : ℕ) → 1 ≤ month_length l m → 1 ≤ m
unfolding month_length
month_from l zero h = absurd (omega arith)
month_from l (suc m) h = omega arith

pub month_most : (l : Bool) (m : ℕ) → month_length l m ≤ 31
unfolding month_length
month_most l m = by_case (nat_lt m 13) refl
  where
    within : (l : Bool) → m < 13 → T (nat_le (month_length l m) 31)
    within true h = every_at (λ (m : ℕ). leb (month_length true m) 31) 13 m tt h
    within false h = every_at (λ (m : ℕ). leb (month_length false m) 31) 13 m tt h

    by_case : (b : Bool) → nat_lt m 13 ≡ b → month_length l m ≤ 31
    by_case true e = leb→le (month_length l m) 31 (within l (ltb-true m 13 e))
    by_case false e = let far = ltb-false m 13 e in omega (arith, month_after l m (omega arith))

pub valid_month : (d : Date) → Valid d → (1 ≤ d.month) × (d.month ≤ 12)
valid_month d v =
    let some : 1 ≤ month_length (leap d.year) d.month = omega (arith, v.from, v.to) in
    (month_from (leap d.year) d.month some, no_month_past (leap d.year) d.month some)

-- ---- years

-- a quotient that is rounded up grows by one where the year is a multiple
four : (y : ℕ) → y % 4 ≡ 0 → (suc y + 3) / 4 ≡ (y + 3) / 4 + 1
four y h = omega arith

no_four : (y : ℕ) → (y % 4 ≢ 0) → (suc y + 3) / 4 ≡ (y + 3) / 4
no_four y h = omega arith

hundred : (y : ℕ) → y % 100 ≡ 0 → (suc y + 99) / 100 ≡ (y + 99) / 100 + 1
hundred y h = omega arith

no_hundred : (y : ℕ) → (y % 100 ≢ 0) → (suc y + 99) / 100 ≡ (y + 99) / 100
no_hundred y h = omega arith

four_hundred : (y : ℕ) → y % 400 ≡ 0 → (suc y + 399) / 400 ≡ (y + 399) / 400 + 1
four_hundred y h = omega arith

no_four_hundred : (y : ℕ) → (y % 400 ≢ 0) → (suc y + 399) / 400 ≡ (y + 399) / 400
no_four_hundred y h = omega arith

then_hundred : (y : ℕ) → y % 400 ≡ 0 → y % 100 ≡ 0
then_hundred y h = omega arith

then_four : (y : ℕ) → y % 100 ≡ 0 → y % 4 ≡ 0
then_four y h = omega arith

-- what is taken away is there
enough : (y : ℕ) → (y + 99) / 100 ≤ 365 * y
enough y = omega arith

sums : (y a b c a' b' c' n : ℕ) → b ≤ 365 * y → b' ≤ 365 * suc y → 365 + a' + c' + b ≡ n + a + c + b'
    → 365 * suc y + a' + c' - b' ≡ 365 * y + a + c - b + n
sums y a b c a' b' c' n p q e = omega arith

-- one year more
year_step : (y : ℕ) → year_by (suc y) ≡ year_by y + year_length (leap y)
unfolding leap
year_step y = by400 (y % 400 == 0) refl
  where
    step : (n : ℕ) → 365 + (suc y + 3) / 4 + (suc y + 399) / 400 + (y + 99) / 100 ≡ n + (y + 3) / 4 + (y + 399) / 400 + (suc y + 99) / 100
        → year_by (suc y) ≡ year_by y + n
    step n e =
        sums y ((y + 3) / 4) ((y + 99) / 100) ((y + 399) / 400) ((suc y + 3) / 4) ((suc y + 99) / 100) ((suc y + 399) / 400) n (enough y) (enough (suc y)) e

    by4 : (b : Bool) → (y % 4 == 0) ≡ b → (y % 100 ≢ 0) → (y % 400 ≢ 0) → year_by (suc y) ≡ year_by y + year_length b
    by4 true e p q = step 366 (rw (four y (eqb-true (y % 4) 0 e), no_hundred y p, no_four_hundred y q) (omega arith))
    by4 false e p q = step 365 (rw (no_four y (eqb-false (y % 4) 0 e), no_hundred y p, no_four_hundred y q))

    by100 : (b : Bool) → (y % 100 == 0) ≡ b → (y % 400 ≢ 0) → year_by (suc y) ≡ year_by y + year_length (cond b false (y % 4 == 0))
    by100 true e q =
        let h = eqb-true (y % 100) 0 e in
        step 365 (rw (four y (then_four y h), hundred y h, no_four_hundred y q) (omega arith))
    by100 false e q = by4 (y % 4 == 0) refl (eqb-false (y % 100) 0 e) q

    by400 : (b : Bool) → (y % 400 == 0) ≡ b → year_by (suc y) ≡ year_by y + year_length (cond b true (cond (y % 100 == 0) false (y % 4 == 0)))
    by400 true e =
        let h = eqb-true (y % 400) 0 e in
        let k = then_hundred y h in
        step 366 (rw (four y (then_four y k), hundred y k, four_hundred y h) (omega arith))
    by400 false e = by100 (y % 100 == 0) refl (eqb-false (y % 400) 0 e)

pub year_by_lem : (y : ℕ) → days_before_year y ≡ year_by y
unfolding days_before_year total
year_by_lem zero = refl
year_by_lem (suc y) = rw (year_by_lem y, year_step y)

pub year_most : (y : ℕ) → days_before_year y ≤ 367 * y + 1
year_most y = omega (arith, year_by_lem y)

few : (y : ℕ) → (y + 99) / 100 ≤ y
few y = omega arith

less_few : (y a b c : ℕ) → b ≤ y → 364 * y ≤ 365 * y + a + c - b
less_few y a b c h = omega arith

pub year_least : (y : ℕ) → 364 * y ≤ days_before_year y
year_least y = rw (year_by_lem y) (less_few y ((y + 3) / 4) ((y + 99) / 100) ((y + 399) / 400) (few y))
