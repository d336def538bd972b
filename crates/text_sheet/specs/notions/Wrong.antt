-- Wrong variants of the sheet.
use Rattle.std.specs.Prelude.{ℕ, ◌-◌, Bool, true, cond, List, ◌∷◌, ◌++◌, length}
use Rattle.list.specs.declared.Star.{Star}
use Rattle.list.specs.rules.Record.{in_range}
use Rattle.list.specs.rules.Stars.{is_list, stars, kept, records_bytes}
use Rattle.text_number.specs.rules.Bytes.{ascii, space}
use Rattle.text_number.specs.rules.Number.{decimal_text, integer_text}
use Rattle.text_number.specs.rules.Refused.{refused_text}
use Rattle.text_sheet.specs.rules.Sheet.{ok_end, bad_end, place_text, rates_text, line, lines, goods, heading, footing, sheet_of}

-- the sheet of a list, with another line and another footing
abbrev sheet_by : (Star → List ℕ) → (ℕ → ℕ → List ℕ) → List ℕ → List ℕ
sheet_by body foot s =
    let rs = kept (stars s) in
    heading (length rs) ++ (records_bytes body rs ++ foot (goods rs) (length rs - goods rs))

abbrev capital_end : List ℕ
capital_end = ascii " OK\n"

-- a star's line with another text after its declination
abbrev line_by : (Star → List ℕ) → Star → List ℕ
line_by after r = decimal_text r.number ++ cond (in_range r) (place_text r ++ after r) bad_end

abbrev pub capital_ok : Bool → List ℕ → List ℕ
capital_ok rates = sheet_by (line_by (λ (r : Star). rates_text rates r ++ capital_end)) footing

-- yearly changes in every star's line, asked for or not
abbrev pub rates_unasked : List ℕ → List ℕ
rates_unasked = sheet_by (line_by (λ (r : Star). rates_text true r ++ ok_end)) footing

-- the declination's before the right ascension's
abbrev pub rates_printed_traded : List ℕ → List ℕ
rates_printed_traded =
    sheet_by (line_by (λ (r : Star). space ∷ (integer_text r.dec_rate ++ (space ∷ (integer_text r.asc_rate ++ ok_end))))) footing

abbrev pub good_and_bad_traded : Bool → List ℕ → List ℕ
good_and_bad_traded rates = sheet_by (line rates) (λ (good bad : ℕ). footing bad good)

-- a sheet by its four parts: how many stars, whose lines, how many are good and how many bad. In each variant of it one part is of all
-- places, the empty ones too.
abbrev sheet_with : Bool → ℕ → List Star → ℕ → ℕ → List ℕ
sheet_with rates n rs good bad = heading n ++ (lines rates rs ++ footing good bad)

-- an empty place counted as a star
abbrev pub empty_counted : Bool → List ℕ → List ℕ
empty_counted rates s = let rs = kept (stars s) in sheet_with rates (length (stars s)) rs (goods rs) (length rs - goods rs)

-- printed as a line
abbrev pub empty_printed : Bool → List ℕ → List ℕ
empty_printed rates s = let rs = kept (stars s) in sheet_with rates (length rs) (stars s) (goods rs) (length rs - goods rs)

-- counted good, where what stands behind its 0 is in range
abbrev pub empty_counted_good : Bool → List ℕ → List ℕ
empty_counted_good rates s = let rs = kept (stars s) in sheet_with rates (length rs) rs (goods (stars s)) (length rs - goods rs)

-- counted bad
abbrev pub empty_counted_bad : Bool → List ℕ → List ℕ
empty_counted_bad rates s = let rs = kept (stars s) in sheet_with rates (length rs) rs (goods rs) (length (stars s) - goods rs)

-- "refused 9"
abbrev pub refused_by_nine : Bool → List ℕ → List ℕ
refused_by_nine rates s = cond (is_list s) (sheet_of rates s) (refused_text 9)
