-- The Earth's velocity on a day, along the axes of J2000, in 10^-8 AU a day: the sums over the 36 rows.
use Rattle.std.specs.Prelude.{List, [], ◌∷◌, Float}
use Rattle.double.specs.rules.Operations.{zero}
use Rattle.helpers.specs.rules.Time.{century_of}
use Rattle.aberr_args.specs.declared.Arguments.{Arguments}
use Rattle.aberr_args.specs.declared.Velocity.{Velocity}
use Rattle.aberr_args.specs.rules.Arguments.{arguments_of}
use Rattle.aberr_table.specs.rules.Rows.{row1, row2, row3, row4, row5, row6, row7, row8, row9, row10, row11, row12, row13, row14, row15, row16}
use Rattle.aberr_table.specs.rules.Rows.{row17, row18, row19, row20, row21, row22, row23, row24, row25, row26, row27, row28, row29, row30}
use Rattle.aberr_table.specs.rules.Rows.{row31, row32, row33, row34, row35, row36}

abbrev pub rows : List (Arguments → Velocity → Velocity)
rows =
    row1 ∷ row2 ∷ row3 ∷ row4 ∷ row5 ∷ row6 ∷ row7 ∷ row8 ∷ row9
    ∷ row10 ∷ row11 ∷ row12 ∷ row13 ∷ row14 ∷ row15 ∷ row16 ∷ row17 ∷ row18
    ∷ row19 ∷ row20 ∷ row21 ∷ row22 ∷ row23 ∷ row24 ∷ row25 ∷ row26 ∷ row27
    ∷ row28 ∷ row29 ∷ row30 ∷ row31 ∷ row32 ∷ row33 ∷ row34 ∷ row35 ∷ row36
    ∷ []

-- the sums v with the rows of a list, in its order
unfoldable pub summed : List (Arguments → Velocity → Velocity) → Arguments → Velocity → Velocity
summed [] g v = v
summed (row ∷ more) g v = summed more g (row g v)

abbrev pub none : Velocity
none = record { x = zero; y = zero; z = zero }

unfoldable pub velocity_of : Float → Velocity
velocity_of day = summed rows (arguments_of (century_of day)) none
