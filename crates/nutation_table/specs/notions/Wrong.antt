-- Wrong variants of the table of nutation: what another table gives on a day.
use Rattle.std.specs.Prelude.{List, [], ◌∷◌, ◌++◌, pos, neg_ℤ, Float, take, drop}
use Rattle.helpers.specs.rules.Time.{century_of}
use Rattle.nutation_args.specs.declared.Row.{Row}
use Rattle.nutation_args.specs.declared.Nutations.{Nutations}
use Rattle.nutation_args.specs.rules.Arguments.{moon_of}
use Rattle.nutation_args.specs.rules.Sum.{summed, none, converted}
use Rattle.nutation_table.specs.rules.Rows.{rows}

abbrev over : List Row → Float → Nutations
over table day = converted (summed table (moon_of (century_of day)) none)

abbrev first_replaced : Row → List Row → List Row
first_replaced new [] = []
first_replaced new (x ∷ xs) = new ∷ xs

abbrev first_two_traded : List Row → List Row
first_two_traded [] = []
first_two_traded (x ∷ []) = x ∷ []
first_two_traded (x ∷ y ∷ xs) = y ∷ x ∷ xs

-- row 34 with 12 for 11
abbrev pub one_coefficient_changed : Float → Nutations
one_coefficient_changed =
    over
    (take 33 rows
    ++ first_replaced (record { 0 = pos 0; 1 = pos 0; 2 = pos 2; 3 = neg_ℤ (pos 2); 4 = pos 0; 5 = pos 12; 6 = pos 0; 7 = pos 0; 8 = pos 0 }) (drop 33 rows))

-- row 12 before row 11
abbrev pub two_rows_traded : Float → Nutations
two_rows_traded = over (take 10 rows ++ first_two_traded (drop 10 rows))
