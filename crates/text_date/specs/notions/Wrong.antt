-- Wrong variants of the reading of a time.
use Rattle.std.specs.Prelude.{ℕ, cond, List, [], ◌∷◌, ◌++◌, ltb}
use Rattle.text_date.specs.declared.Reason.TheVariants.{NoFraction, NoHour, NoMinute, NoSecond}
use Rattle.text_date.specs.rules.Digits.{pair_at}
use Rattle.text_date.specs.rules.Date.{Reading, is, none}
use Rattle.text_date.specs.rules.Time.{Time, on, letter_z, fraction_of, clock, time_rule}

-- a local time taken for UTC: no Z asked
abbrev pub local_taken : List ℕ → Reading Time
local_taken text = time_rule (text ++ (letter_z ∷ []))

-- so many hours, the minutes at such a place, and so many seconds
abbrev clock_by : ℕ → ℕ → ℕ → List ℕ → ℕ → Reading Time
clock_by hours minutes seconds text n =
    cond (ltb (pair_at text 11) hours)
    (cond (ltb (pair_at text minutes) 60)
    (cond (ltb (pair_at text 17) seconds)
    (cond (ltb (fraction_of text) 1000)
    (is (on n (clock (pair_at text 11) (pair_at text minutes) (pair_at text 17) (fraction_of text))))
    (none NoFraction))
    (none NoSecond))
    (none NoMinute))
    (none NoHour)

abbrev pub hour24 : List ℕ → ℕ → Reading Time
hour24 = clock_by 25 14 60

abbrev pub second60 : List ℕ → ℕ → Reading Time
second60 = clock_by 24 14 61

abbrev pub seconds_for_minutes : List ℕ → ℕ → Reading Time
seconds_for_minutes = clock_by 24 17 60
