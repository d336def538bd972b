-- What is read is what the text says: a date that there is, a time of that day in whole milliseconds, and the Julian day of the two,
-- rounded once.
use Rattle.std.specs.Prelude.{ℕ, ◌-◌, ◌≤◌, ◌<◌, ◌≡◌, Bool, List, eqb, ℤ, nat_abs, Float, length}
use Rattle.std.proofs.Math.Path.{refl}
use Rattle.std.proofs.Common.{sym, ap, ◌∙◌, arith, ltb-true, ltb-false}
use Rattle.std.proofs.Math.Bool.{true, false, cond}
use Rattle.std.proofs.Math.Dec.{ltb}
use Rattle.std.specs.Float.{binary64}
use Rattle.std.specs.Float.Ieee.{round}
use Rattle.double.specs.laws.Apart.{apart}
use Rattle.text_number.specs.rules.Bytes.{minus_sign}
use Rattle.calendar.specs.declared.Date.{Date}
use Rattle.calendar.specs.rules.Date.{date, Valid}
use Rattle.calendar.specs.rules.Number as number
use Rattle.calendar.specs.rules.Number.{number_of}
use Rattle.calendar.specs.rules.Julian.{millis_of}
use Rattle.calendar.specs.laws.Julian.{julian_rounded}
use Rattle.calendar.specs.laws.Taken.{Taken, taken}
use Rattle.text_date.specs.declared.Reason.{Reason}
use Rattle.text_date.specs.declared.Reason.TheVariants.{
  NoDate,
  NoMonth,
  NoDay,
  TooEarly,
  TooLate,
  NoTime,
  NoZ,
  NoFraction,
  NoHour,
  NoMinute,
  NoSecond,
}
use Rattle.text_date.specs.rules.Digits.{at, missing, pair_at, year_at}
use Rattle.text_date.specs.rules.Date.{Reading, is, none, from_number, date_of}
use Rattle.text_date.specs.rules.Time.{
  Time,
  on,
  letter_t,
  letter_z,
  is_clock,
  is_fraction,
  fraction_of,
  clock,
  clock_in,
  with_time,
  first_number,
  last_number,
  with_number,
  after_date,
  time_rule,
}
use Rattle.text_date.specs.rules.Moment.{moment_at, moment_rule}

abbrev says : {A : Type 0} → Reading A → ℕ
says (is x) = 1
says (none k) = 0

differ : {A : Type 0} {k : Reason} {x : A} → ◌≡◌ {A = Reading A} (none k) (is x) → ⊥
differ e = apart says refl e

abbrev written : List ℕ → Date
written text = date (year_at text) (pair_at text 5) (pair_at text 8)

-- a date of the calendar, its number, within the days that are read, and a time of it
pub record TimeSaid (text : List ℕ) (n t : ℕ) : Type 0 where
  pub valid : Valid (written text)
  pub number : n ≡ number_of (written text)
  pub from : first_number ≤ n
  pub to : n ≤ last_number
  pub in_day : t < 86400000

-- ---- the date

module _ (text : List ℕ) (n : ℕ) where
  numbered : (r : number.Numbered) → number.number_rule (written text) ≡ r → from_number r ≡ is n → Taken (written text) n
  numbered (number.is m) p e = taken (written text) n (p ∙ ap number.is (same e))
    where
      same : {m : ℕ} → ◌≡◌ {A = Reading ℕ} (is m) (is n) → m ≡ n
      same e = cc
  numbered number.no_month p e = absurd (differ e)
  numbered number.no_day p e = absurd (differ e)

  date_taken : date_of text ≡ is n → Taken (written text) n
  unfolding date_of
  date_taken e =
      by_tests (eqb (at text 4) minus_sign) (eqb (at text 7) minus_sign) (ltb (year_at text) missing) (ltb (pair_at text 5) 100) (ltb (pair_at text 8) 100) e
    where
      by_tests : (a b c d e : Bool)
          → cond a
          (cond b
          (cond c (cond d (cond e (from_number (number.number_rule (written text))) (none NoDay)) (none NoMonth)) (none NoDate))
          (none NoDate))
          (none NoDate)
          ≡ is n
          → Taken (written text) n
      by_tests false b c d e h = absurd (differ h)
      by_tests true false c d e h = absurd (differ h)
      by_tests true true false d e h = absurd (differ h)
      by_tests true true true false e h = absurd (differ h)
      by_tests true true true true false h = absurd (differ h)
      by_tests true true true true true h = numbered (number.number_rule (written text)) refl h

-- ---- the time

pub in_day : (h m s f : ℕ) → h < 24 → m < 60 → s < 60 → f < 1000 → clock h m s f < 86400000
in_day h m s f a b c d = omega arith

module _ (text : List ℕ) (m n t : ℕ) (D : Taken (written text) m) (from : first_number ≤ m) (to : m ≤ last_number) where
  at_time : (k : ℕ) → k < 86400000 → ◌≡◌ {A = Reading Time} (is (on m k)) (is (on n t)) → TimeSaid text n t
  at_time k h e =
      let p = same_number e in
      let q = same_millis e in
      record { valid = D.valid; number = sym p ∙ D.number; from = omega arith; to = omega arith; in_day = omega arith }
    where
      same_number : {k : ℕ} → ◌≡◌ {A = Reading Time} (is (on m k)) (is (on n t)) → m ≡ n
      same_number e = cc

      same_millis : {k : ℕ} → ◌≡◌ {A = Reading Time} (is (on m k)) (is (on n t)) → k ≡ t
      same_millis e = cc

  clock_said : clock_in text m ≡ is (on n t) → TimeSaid text n t
  unfolding clock_in
  clock_said e =
      by_tests (ltb (pair_at text 11) 24) (ltb (pair_at text 14) 60) (ltb (pair_at text 17) 60) (ltb (fraction_of text) 1000) refl refl refl refl e
    where
      by_tests : (a b c d : Bool) → ltb (pair_at text 11) 24 ≡ a → ltb (pair_at text 14) 60 ≡ b → ltb (pair_at text 17) 60 ≡ c → ltb (fraction_of text) 1000 ≡ d
          → cond a
          (cond b
          (cond c
          (cond d (is (on m (clock (pair_at text 11) (pair_at text 14) (pair_at text 17) (fraction_of text)))) (none NoFraction))
          (none NoSecond))
          (none NoMinute))
          (none NoHour)
          ≡ is (on n t)
          → TimeSaid text n t
      by_tests false b c d p q r s e = absurd (differ e)
      by_tests true false c d p q r s e = absurd (differ e)
      by_tests true true false d p q r s e = absurd (differ e)
      by_tests true true true false p q r s e = absurd (differ e)
      by_tests true true true true p q r s e =
          at_time _ (in_day _ _ _ _ (ltb-true _ _ p) (ltb-true _ _ q) (ltb-true _ _ r) (ltb-true _ _ s)) e

  form_said : with_time text m ≡ is (on n t) → TimeSaid text n t
  unfolding with_time
  form_said e = by_tests (eqb (at text 10) letter_t) (eqb (at text (length text - 1)) letter_z) (is_clock text) (is_fraction text) e
    where
      by_tests : (a b c d : Bool) → cond a (cond b (cond c (cond d (clock_in text m) (none NoFraction)) (none NoTime)) (none NoZ)) (none NoTime) ≡ is (on n t)
          → TimeSaid text n t
      by_tests false b c d e = absurd (differ e)
      by_tests true false c d e = absurd (differ e)
      by_tests true true false d e = absurd (differ e)
      by_tests true true true false e = absurd (differ e)
      by_tests true true true true e = clock_said e

-- ---- both

number_said : (text : List ℕ) (m n t : ℕ) → Taken (written text) m → with_number text m ≡ is (on n t) → TimeSaid text n t
unfolding with_number
number_said text m n t D e = by_tests (ltb m first_number) (ltb last_number m) (eqb (length text) 10) refl refl e
  where
    by_tests : (a b c : Bool) → ltb m first_number ≡ a → ltb last_number m ≡ b
        → cond a (none TooEarly) (cond b (none TooLate) (cond c (is (on m 0)) (with_time text m))) ≡ is (on n t)
        → TimeSaid text n t
    by_tests true b c p q e = absurd (differ e)
    by_tests false true c p q e = absurd (differ e)
    by_tests false false true p q e = at_time text m n t D (ltb-false m first_number p) (ltb-false last_number m q) 0 (omega arith) e
    by_tests false false false p q e = form_said text m n t D (ltb-false m first_number p) (ltb-false last_number m q) e

pub time_said : (text : List ℕ) (n t : ℕ) → time_rule text ≡ is (on n t) → TimeSaid text n t
unfolding time_rule
time_said text n t e = by_tests (ltb (length text) 10) (date_of text) refl e
  where
    by_tests : (a : Bool) (r : Reading ℕ) → date_of text ≡ r → cond a (none NoDate) (after_date text r) ≡ is (on n t) → TimeSaid text n t
    by_tests true r p e = absurd (differ e)
    by_tests false (none k) p e = absurd (differ e)
    by_tests false (is m) p e = number_said text m n t (date_taken text m p) e

-- the Julian day of it, where UT1 − UTC is 0.9 seconds in size at most
pub record Said (text : List ℕ) (dut1 : ℤ) (x : Float) : Type 0 where
  pub number : ℕ
  pub millis : ℕ
  pub time : TimeSaid text number millis
  pub rounded : x ≡ round binary64 false (millis_of number millis dut1) 86400000

pub said : (text : List ℕ) (dut1 : ℤ) (x : Float) → nat_abs dut1 ≤ 900 → moment_rule text dut1 ≡ is x → Said text dut1 x
unfolding moment_rule
said text dut1 x small e = by-time (time_rule text) refl e
  where
    same : {x y : Float} → ◌≡◌ {A = Reading Float} (is y) (is x) → x ≡ y
    same e = cc

    by-time : (r : Reading Time) → time_rule text ≡ r → moment_at dut1 r ≡ is x → Said text dut1 x
    by-time (none k) p e = absurd (differ e)
    by-time (is (on n t)) p e =
        let T = time_said text n t p in
        record {
          number = n;
          millis = t;
          time = T;
          rounded = same e ∙ julian_rounded n t dut1 (omega (arith, T.to)) T.in_day small;
        }
