-- The time after a date: Thh:mm:ssZ, or with a point and up to three digits before the Z, which must be there. Without one it is 0h.
use Rattle.std.specs.Prelude.{ℕ, ◌+◌, ◌*◌, ◌-◌, Bool, true, false, cond, List, eqb, leb, ltb, length, Result, Ok, Err}
use Prim.Native.Char.{code}
use Rattle.text_number.specs.rules.Bytes.{colon, point, digit0}
use Rattle.text_date.specs.declared.Reason.{Reason}
use Rattle.text_date.specs.declared.Reason.TheVariants.{NoDate, TooEarly, TooLate, NoTime, NoZ, NoFraction, NoHour, NoMinute, NoSecond}
use Rattle.text_date.specs.rules.Digits.{at, digit_of, joined, pair_at}
use Rattle.text_date.specs.rules.Date.{Reading, is, none, date_of}

-- a day number and the milliseconds since its 0h
pub data Time : Type 0 where
  on : ℕ → ℕ → Time

abbrev pub shown_timed : Result (ℕ × ℕ) Reason → Reading Time
shown_timed (Ok (n, t)) = is (on n t)
shown_timed (Err k) = none k

abbrev pub letter_t : ℕ
letter_t = code "T"

abbrev pub letter_z : ℕ
letter_z = code "Z"

unfoldable pub is_clock : List ℕ → Bool
is_clock text = cond (ltb (length text) 20) false (cond (eqb (at text 13) colon) (eqb (at text 16) colon) false)

-- a Z alone after the seconds, or a point and up to three bytes before it
unfoldable pub is_fraction : List ℕ → Bool
is_fraction text =
    cond (eqb (length text) 20) true
    (cond (ltb (length text) 22) false (cond (leb (length text) 24) (eqb (at text 19) point) false))

-- a digit of the fraction that is not there is a 0
unfoldable pub frac_byte : List ℕ → ℕ → ℕ
frac_byte text i = cond (ltb (i + 1) (length text)) (at text i) digit0

unfoldable pub fraction_of : List ℕ → ℕ
fraction_of text = joined 10 (joined 10 (digit_of (frac_byte text 20)) (digit_of (frac_byte text 21))) (digit_of (frac_byte text 22))

abbrev pub clock : ℕ → ℕ → ℕ → ℕ → ℕ
clock h m s f = ((h * 60 + m) * 60 + s) * 1000 + f

unfoldable pub clock_in : List ℕ → ℕ → Reading Time
clock_in text n =
    cond (ltb (pair_at text 11) 24)
    (cond (ltb (pair_at text 14) 60)
    (cond (ltb (pair_at text 17) 60)
    (cond (ltb (fraction_of text) 1000)
    (is (on n (clock (pair_at text 11) (pair_at text 14) (pair_at text 17) (fraction_of text))))
    (none NoFraction))
    (none NoSecond))
    (none NoMinute))
    (none NoHour)

unfoldable pub with_time : List ℕ → ℕ → Reading Time
with_time text n =
    cond (eqb (at text 10) letter_t)
    (cond (eqb (at text (length text - 1)) letter_z)
    (cond (is_clock text) (cond (is_fraction text) (clock_in text n) (none NoFraction)) (none NoTime))
    (none NoZ))
    (none NoTime)

-- ---- both

-- 1582-10-15 and 4000-01-16
abbrev pub first_number : ℕ
first_number = 2299161

abbrev pub last_number : ℕ
last_number = 3182045

unfoldable pub with_number : List ℕ → ℕ → Reading Time
with_number text n =
    cond (ltb n first_number) (none TooEarly)
    (cond (ltb last_number n) (none TooLate) (cond (eqb (length text) 10) (is (on n 0)) (with_time text n)))

abbrev pub after_date : List ℕ → Reading ℕ → Reading Time
after_date text (is n) = with_number text n
after_date text (none k) = none k

unfoldable pub time_rule : List ℕ → Reading Time
time_rule text = cond (ltb (length text) 10) (none NoDate) (after_date text (date_of text))
