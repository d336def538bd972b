-- The rules as the code goes: their tests, one after the other.
use Rattle.std.specs.Prelude.{ℕ, ◌+◌, ◌*◌, ◌-◌, ◌≤◌, ◌<◌, ◌≡◌, refl, Bool, true, false, not, cond, List, eqb, ltb, ℤ, length, Result, Ok, Err}
use Rattle.std.proofs.Common.{sym, arith}
use borrow.Author.Tests.{lt-ltb, le-ltb, eq-eqb, ltb-true, ltb-false}
use Rattle.text_number.specs.rules.Bytes.{minus_sign, colon}
use Rattle.calendar.specs.rules.Date.{date}
use Rattle.calendar.specs.rules.Number.{number_rule}
use Rattle.calendar.specs.rules.Julian.{julian_of}
use Rattle.text_date.specs.declared.Reason.{Reason}
use Rattle.text_date.specs.declared.Reason.TheVariants.{NoDate, NoMonth, NoDay, NoTime, NoFraction, NoHour, NoMinute, NoSecond}
use Rattle.text_date.specs.rules.Digits.{at, missing, joined, pair_at, year_at}
use Rattle.text_date.specs.rules.Date.{Reading, is, none, from_number, shown, below, date_of}
use Rattle.text_date.specs.rules.Time.{
  Time,
  on,
  letter_t,
  letter_z,
  is_clock,
  is_fraction,
  fraction_of,
  clock,
  shown_timed,
  clock_in,
  with_time,
  with_number,
  after_date,
  time_rule,
}
use Rattle.text_date.specs.rules.Moment.{moment_rule}

-- ---- two numbers one after the other: one of them missing, and both there

pub joined_first : (k x y : ℕ) → x ≡ missing → joined k x y ≡ missing
unfolding joined
joined_first k x y e = rw (le-ltb x missing (omega (arith, e)))

pub joined_second : (k x y : ℕ) → y ≡ missing → joined k x y ≡ missing
unfolding joined
joined_second k x y e = by_test (ltb x missing)
  where
    by_test : (b : Bool) → cond b (cond (ltb y missing) (x * k + y) missing) missing ≡ missing
    by_test true = rw (le-ltb y missing (omega (arith, e)))
    by_test false = refl

pub joined_both : (k x y : ℕ) → x < missing → y < missing → x * k + y ≡ joined k x y
unfolding joined
joined_both k x y h g = rw (lt-ltb x missing h, lt-ltb y missing g)

-- ---- a number below a limit, and one that is not

module _ (limit x : ℕ) (r : Reason) where
  pub holds : {n : ℕ} → is n ≡ below limit x r → (n ≡ x) × (x < limit)
  holds {n = n} e = by_test (ltb x limit) refl e
    where
      by_test : (b : Bool) → ltb x limit ≡ b → is n ≡ cond b (is x) (none r) → (n ≡ x) × (x < limit)
      by_test true p e = (cc, ltb-true x limit p)
      by_test false p e = cc

  pub fails : {k : Reason} → none k ≡ below limit x r → (k ≡ r) × (limit ≤ x)
  fails {k = k} e = by_test (ltb x limit) refl e
    where
      by_test : (b : Bool) → ltb x limit ≡ b → none k ≡ cond b (is x) (none r) → (k ≡ r) × (limit ≤ x)
      by_test true p e = cc
      by_test false p e = (cc, ltb-false x limit p)

-- ---- the date

module _ (text : List ℕ) (y m d : ℕ) (e4 : at text 4 ≡ minus_sign) (e7 : at text 7 ≡ minus_sign) (ey : y ≡ year_at text) where
  pub no_year : missing ≤ y → none NoDate ≡ date_of text
  unfolding date_of
  no_year h = rw (eq-eqb (at text 4) minus_sign e4, eq-eqb (at text 7) minus_sign e7, ← ey, le-ltb y missing h)

  module _ (hy : y < missing) (em : m ≡ pair_at text 5) where
    pub no_month_lem : 100 ≤ m → none NoMonth ≡ date_of text
    unfolding date_of
    no_month_lem h = rw (eq-eqb (at text 4) minus_sign e4, eq-eqb (at text 7) minus_sign e7, ← ey, lt-ltb y missing hy, ← em, le-ltb m 100 h)

    module _ (hm : m < 100) (ed : d ≡ pair_at text 8) where
      pub no_day_lem : 100 ≤ d → none NoDay ≡ date_of text
      unfolding date_of
      no_day_lem h =
          rw (eq-eqb (at text 4) minus_sign e4, eq-eqb (at text 7) minus_sign e7, ← ey, lt-ltb y missing hy, ← em, lt-ltb m 100 hm, ← ed, le-ltb d 100 h)

      pub dated_by : d < 100 → from_number (number_rule (date y m d)) ≡ date_of text
      unfolding date_of
      dated_by h =
          rw (eq-eqb (at text 4) minus_sign e4, eq-eqb (at text 7) minus_sign e7, ← ey, lt-ltb y missing hy, ← em, lt-ltb m 100 hm, ← ed, lt-ltb d 100 h)

-- ---- the time

module _ (text : List ℕ) (n h m s f : ℕ) (eh : h ≡ pair_at text 11) (em : m ≡ pair_at text 14) (es : s ≡ pair_at text 17) (ef : f ≡ fraction_of text) where
  pub no_hour : 24 ≤ h → none NoHour ≡ clock_in text n
  unfolding clock_in
  no_hour k = rw (← eh, le-ltb h 24 k)

  module _ (hh : h < 24) where
    pub no_minute : 60 ≤ m → none NoMinute ≡ clock_in text n
    unfolding clock_in
    no_minute k = rw (← eh, lt-ltb h 24 hh, ← em, le-ltb m 60 k)

    module _ (hm : m < 60) where
      pub no_second : 60 ≤ s → none NoSecond ≡ clock_in text n
      unfolding clock_in
      no_second k = rw (← eh, lt-ltb h 24 hh, ← em, lt-ltb m 60 hm, ← es, le-ltb s 60 k)

      module _ (hs : s < 60) where
        pub no_fraction : 1000 ≤ f → none NoFraction ≡ clock_in text n
        unfolding clock_in
        no_fraction k = rw (← eh, lt-ltb h 24 hh, ← em, lt-ltb m 60 hm, ← es, lt-ltb s 60 hs, ← ef, le-ltb f 1000 k)

        pub timed_by : f < 1000 → is (on n (clock h m s f)) ≡ clock_in text n
        unfolding clock_in
        timed_by k = rw (← eh, lt-ltb h 24 hh, ← em, lt-ltb m 60 hm, ← es, lt-ltb s 60 hs, ← ef, lt-ltb f 1000 k)

-- what a test of a negated flag tells of the flag
pub set : (b : Bool) → not b ≡ false → b ≡ true
set true e = refl
set false e = sym e

pub unset : (b : Bool) → not b ≡ true → b ≡ false
unset true e = sym e
unset false e = refl

pub clock_by_lem : (text : List ℕ) → 20 ≤ length text → at text 13 ≡ colon → eqb (at text 16) colon ≡ is_clock text
unfolding is_clock
clock_by_lem text h e = rw (le-ltb (length text) 20 h, eq-eqb (at text 13) colon e)

bool_apart : ◌≡◌ {A = Bool} false true → {P : Type 0} → P
bool_apart e = absurd (let z : ◌≡◌ {A = ℕ} 0 1 = cc in omega arith)

-- a text with the form of a time has twenty bytes or more
pub clock_long : (text : List ℕ) → is_clock text ≡ true → 20 ≤ length text
unfolding is_clock
clock_long text e = by_tests (ltb (length text) 20) _ refl e
  where
    by_tests : (a b : Bool) → ltb (length text) 20 ≡ a → cond a false b ≡ true → 20 ≤ length text
    by_tests true b p e = bool_apart e
    by_tests false b p e = ltb-false (length text) 20 p

module _ (text : List ℕ) (n : ℕ) (eT : at text 10 ≡ letter_t) (eZ : at text (length text - 1) ≡ letter_z) (b : Bool) (eb : b ≡ is_clock text) where
  pub no_clock : b ≡ false → none NoTime ≡ with_time text n
  unfolding with_time
  no_clock e = rw (eq-eqb (at text 10) letter_t eT, eq-eqb (at text (length text - 1)) letter_z eZ, ← eb, e)

  module _ (e : b ≡ true) (d : Bool) (ed : d ≡ is_fraction text) where
    pub no_fraction_form : d ≡ false → none NoFraction ≡ with_time text n
    unfolding with_time
    no_fraction_form k = rw (eq-eqb (at text 10) letter_t eT, eq-eqb (at text (length text - 1)) letter_z eZ, ← eb, e, ← ed, k)

    pub formed : d ≡ true → clock_in text n ≡ with_time text n
    unfolding with_time
    formed k = rw (eq-eqb (at text 10) letter_t eT, eq-eqb (at text (length text - 1)) letter_z eZ, ← eb, e, ← ed, k)

-- ---- both

pub goes_on : (text : List ℕ) (b : Reading Time) (r : Result ℕ Reason) (n : ℕ) → shown r ≡ date_of text → r ≡ Ok n → b ≡ with_number text n
    → b ≡ after_date text (date_of text)
goes_on text b r n p e work = rw (← p, e) work

pub stops : (text : List ℕ) (r : Result ℕ Reason) (k : Reason) → shown r ≡ date_of text → r ≡ Err k → none k ≡ after_date text (date_of text)
stops text r k p e = rw (← p, e)

pub at_time : (text : List ℕ) (z : ℤ) (r : Result (ℕ × ℕ) Reason) (n t : ℕ) → shown_timed r ≡ time_rule text → r ≡ Ok (n, t)
    → is (julian_of n t z) ≡ moment_rule text z
unfolding moment_rule
at_time text z r n t p e = rw (← p, e)

pub no_time : (text : List ℕ) (z : ℤ) (r : Result (ℕ × ℕ) Reason) (k : Reason) → shown_timed r ≡ time_rule text → r ≡ Err k → none k ≡ moment_rule text z
unfolding moment_rule
no_time text z r k p e = rw (← p, e)
