-- A date that is written as four, two and two digits is read as itself, and so is a time behind it as two, two and two digits with none, one,
-- two or three of a fraction.
use Rattle.std.specs.Prelude.{ℕ, ◌+◌, ◌*◌, ◌-◌, ◌/◌, ◌%◌, ◌≤◌, ◌<◌, ◌≡◌, true, false, cond, List, [], eqb, ltb, ℤ, length}
use Rattle.std.proofs.Math.Path.{refl}
use Rattle.std.proofs.Common.{sym, ap, ◌∙◌}
use native.Mathlib.Omega.{arith}
use borrow.Author.Tests.{lt-ltb, le-ltb, le-leb}
use Rattle.text_number.specs.rules.Bytes.{digit0, digit9}
use Rattle.calendar.specs.rules.Date.{date, leap, Valid}
use Rattle.calendar.specs.rules.Number.{number_rule, number_of}
use Rattle.calendar.specs.rules.Julian.{julian_of}
use Rattle.calendar.specs.laws.Closed.{valid_month, month_most, year_least}
use Rattle.calendar.specs.laws.Taken.{numbered}
use Rattle.text_date.specs.rules.Digits.{at, missing, digit_of, joined, pair_at, year_at}
use Rattle.text_date.specs.rules.Date.{is, from_number, date_of}
use Rattle.text_date.specs.rules.Time.{
  on,
  letter_z,
  is_clock,
  is_fraction,
  frac_byte,
  fraction_of,
  clock,
  clock_in,
  with_time,
  first_number,
  last_number,
  with_number,
  time_rule,
}
use Rattle.text_date.specs.rules.Moment.{moment_rule}
use Rattle.text_date.specs.notions.Written.{last, date_text, clock_text, tenths, hundredths, thousandths, whole_seconds}
use Rattle.text_date.specs.laws.Steps.{dated_by, timed_by, formed}

digit_written : (n : ℕ) → digit_of (last n) ≡ n % 10
unfolding digit_of
digit_written n = rw (le-leb digit0 (last n) (omega arith), le-leb (last n) digit9 (omega arith)) (omega arith)

joined_both : (k x y : ℕ) → x < missing → y < missing → joined k x y ≡ x * k + y
unfolding joined
joined_both k x y h i = rw (lt-ltb x missing h, lt-ltb y missing i)

two_digits_lem : (n : ℕ) → joined 10 (digit_of (last (n / 10))) (digit_of (last n)) ≡ n % 100
two_digits_lem n =
    rw (digit_written (n / 10), digit_written n, joined_both 10 (n / 10 % 10) (n % 10) (omega arith) (omega arith)) (omega arith)

hundreds : (y : ℕ) → joined 10 (digit_of (last (y / 1000))) (digit_of (last (y / 100))) ≡ y / 100 % 100
hundreds y =
    rw (digit_written (y / 1000), digit_written (y / 100), joined_both 10 (y / 1000 % 10) (y / 100 % 10) (omega arith) (omega arith)) (omega arith)

-- ---- the date

module _ (y m d : ℕ) (rest : List ℕ) where
  abbrev text : List ℕ
  text = date_text y m d rest

  year_written : y < 10000 → year_at text ≡ y
  unfolding year_at pair_at
  year_written h = rw (hundreds y, two_digits_lem y, joined_both 100 (y / 100 % 100) (y % 100) (omega arith) (omega arith)) (omega arith)

  month_written : m < 100 → pair_at text 5 ≡ m
  unfolding pair_at
  month_written h = two_digits_lem m ∙ omega arith

  day_written : d < 100 → pair_at text 8 ≡ d
  unfolding pair_at
  day_written h = two_digits_lem d ∙ omega arith

  pub date_written : y < 10000 → m < 100 → d < 100 → date_of text ≡ from_number (number_rule (date y m d))
  date_written hy hm hd =
      sym (dated_by text y m d refl refl (sym (year_written hy)) hy (sym (month_written hm)) hm (sym (day_written hd)) hd)

-- ---- the time

two_back : (n : ℕ) → n < 100 → n ≡ joined 10 (digit_of (last (n / 10))) (digit_of (last n))
two_back n h = sym (two_digits_lem n ∙ omega arith)

three_back : (n : ℕ) → n < 1000
    → n ≡ joined 10 (joined 10 (digit_of (last (n / 100))) (digit_of (last (n / 10)))) (digit_of (last n))
three_back n h = rw (two_at, digit_written n, joined_both 10 (n / 10 % 100) (n % 10) (omega arith) (omega arith)) (omega arith)
  where
    two_at : joined 10 (digit_of (last (n / 100))) (digit_of (last (n / 10))) ≡ n / 10 % 100
    two_at =
        rw (digit_written (n / 100), digit_written (n / 10), joined_both 10 (n / 100 % 10) (n / 10 % 10) (omega arith) (omega arith)) (omega arith)

one_back : (n : ℕ) → n < 10 → n * 100 ≡ joined 10 (joined 10 (digit_of (last n)) (digit_of digit0)) (digit_of digit0)
one_back n h =
    rw (digit_written n, digit_written 0, joined_both 10 (n % 10) 0 (omega arith) (omega arith), joined_both 10 (n % 10 * 10 + 0) 0 (omega arith) (omega arith))
    (omega arith)

ten_back : (n : ℕ) → n < 100 → n * 10 ≡ joined 10 (joined 10 (digit_of (last (n / 10))) (digit_of (last n))) (digit_of digit0)
ten_back n h = rw (two_digits_lem n, digit_written 0, joined_both 10 (n % 100) 0 (omega arith) (omega arith)) (omega arith)

-- a date that there is, within the days that are read
module _ (y m d : ℕ) (v : Valid (date y m d)) (from : first_number ≤ number_of (date y m d)) (to : number_of (date y m d) ≤ last_number) where
  abbrev n : ℕ
  n = number_of (date y m d)

  year_short : y < 10000
  unfolding number_of
  year_short = omega (arith, to, year_least y)

  dated : (rest : List ℕ) → date_of (date_text y m d rest) ≡ is n
  dated rest =
      date_written y m d rest year_short (omega (arith, (valid_month (date y m d) v).1)) (omega (arith, v.to, month_most (leap y) m))
      ∙ ap from_number (numbered (date y m d) n v)

  in_range_lem : (text : List ℕ) → with_number text n ≡ cond (eqb (length text) 10) (is (on n 0)) (with_time text n)
  unfolding with_number
  in_range_lem text = rw (le-ltb n first_number from, le-ltb last_number n to)

  -- alone it is 0h
  pub day_read_back : time_rule (date_text y m d []) ≡ is (on n 0)
  unfolding time_rule
  day_read_back = rw (dated []) (in_range_lem (date_text y m d []))

  -- ---- with a time

  module _ (h i s : ℕ) (hh : h < 24) (hi : i < 60) (hs : s < 60) where
    abbrev both : List ℕ → List ℕ
    both rest = date_text y m d (clock_text h i s rest)

    at_clock : (rest : List ℕ) (f : ℕ) → f < 1000 → f ≡ fraction_of (both rest) → is (on n (clock h i s f)) ≡ clock_in (both rest) n
    unfolding pair_at
    at_clock rest f hf e =
        timed_by (both rest) n h i s f (two_back h (omega arith)) (two_back i (omega arith)) (two_back s (omega arith)) e hh hi hs hf

    -- behind the seconds
    module _ (rest : List ℕ) (f : ℕ) (hf : f < 1000) (e : f ≡ fraction_of (both rest)) where
      behind : at (both rest) (length (both rest) - 1) ≡ letter_z → is_clock (both rest) ≡ true → is_fraction (both rest) ≡ true
          → eqb (length (both rest)) 10 ≡ false → ltb (length (both rest)) 10 ≡ false → time_rule (both rest) ≡ is (on n (clock h i s f))
      unfolding time_rule
      behind z c k long enough =
          rw (enough, dated (clock_text h i s rest), in_range_lem (both rest), long)
          (sym (at_clock rest f hf e ∙ formed (both rest) n refl z _ (sym c) refl _ (sym k) refl))

    pub whole_seconds_read_back : time_rule (both whole_seconds) ≡ is (on n (clock h i s 0))
    unfolding is_clock is_fraction fraction_of frac_byte joined digit_of
    whole_seconds_read_back = behind whole_seconds 0 (omega arith) refl refl refl refl refl refl

    pub tenths_read_back : (f : ℕ) → f < 10 → time_rule (both (tenths f)) ≡ is (on n (clock h i s (f * 100)))
    unfolding is_clock is_fraction fraction_of frac_byte
    tenths_read_back f k = behind (tenths f) (f * 100) (omega arith) (one_back f k) refl refl refl refl refl

    pub hundredths_read_back : (f : ℕ) → f < 100 → time_rule (both (hundredths f)) ≡ is (on n (clock h i s (f * 10)))
    unfolding is_clock is_fraction fraction_of frac_byte
    hundredths_read_back f k = behind (hundredths f) (f * 10) (omega arith) (ten_back f k) refl refl refl refl refl

    pub thousandths_read_back : (f : ℕ) → f < 1000 → time_rule (both (thousandths f)) ≡ is (on n (clock h i s f))
    unfolding is_clock is_fraction fraction_of frac_byte
    thousandths_read_back f k = behind (thousandths f) f k (three_back f k) refl refl refl refl refl

-- and the Julian day is that of the time, whatever UT1 − UTC is
pub moment_read_back : (text : List ℕ) (dut1 : ℤ) (n t : ℕ) → time_rule text ≡ is (on n t) → moment_rule text dut1 ≡ is (julian_of n t dut1)
unfolding moment_rule
moment_read_back text dut1 n t e = rw e
