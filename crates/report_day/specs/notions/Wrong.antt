-- Wrong variants of a day's text.
use Rattle.std.specs.Prelude.{ℕ, ◌/◌, ◌%◌, Bool, List, ◌∷◌, ◌++◌, Float}
use Rattle.quantity.specs.declared.Rad.{Rad}
use Rattle.text_number.specs.rules.Bytes.{point}
use Rattle.text_number.specs.rules.Number.{decimal_text}
use Rattle.report_day.specs.rules.Digits.{whole_day, parts_of, digits_text}
use Rattle.report_day.specs.rules.Day.{millionths_of, day_text}

-- as many digits as a date has
abbrev pub digits_cut : Float → List ℕ
digits_cut day = decimal_text (parts_of day / whole_day) ++ (point ∷ digits_text 9 (parts_of day))

-- 12.000005 as 12.5
abbrev pub zeros_lost : Rad → List ℕ
zeros_lost x = decimal_text (millionths_of x / 1000000) ++ (point ∷ decimal_text (millionths_of x % 1000000))

abbrev pub mean_and_apparent_traded : Float → Rad → Rad → Bool → List ℕ
mean_and_apparent_traded day mean apparent utc = day_text day apparent mean utc
