-- Each number of the rules is the decimal that its name spells, rounded once.
use Rattle.std.specs.Prelude.{refl, List, [], ◌∷◌, Float}
use Rattle.std.specs.Float.Ieee.{of_bits, round}
use Rattle.double.specs.rules.Table.{Row, ◌is◌, Agrees, decimal}
use Rattle.aberr_table.specs.rules.Numbers.{n1719914, n2, n25, n13, n1578089, n156, n10, n32, n684185, n358, n6434, n141, n28007, n107, n25697}
use Rattle.aberr_table.specs.rules.Numbers.{n95, n5904, n130, n11141, n48, n2559, n55, n715, n6, n657, n15, n282, n656, n285, n486, n5, n236}
use Rattle.aberr_table.specs.rules.Numbers.{n4, n216, n446, n94, n193, n3, n159, n147, n61, n26, n59, n39, n36, n16, n33, n9, n30, n31, n28}
use Rattle.aberr_table.specs.rules.Numbers.{n12, n8, n11, n21, n19, n17, n7, n1, n14}

abbrev rows : List (Row Float)
rows =
    (n1719914 is decimal 1719914 0)
    ∷ (n2 is decimal 2 0)
    ∷ (n25 is decimal 25 0)
    ∷ (n13 is decimal 13 0)
    ∷ (n1578089 is decimal 1578089 0)
    ∷ (n156 is decimal 156 0)
    ∷ (n10 is decimal 10 0)
    ∷ (n32 is decimal 32 0)
    ∷ (n684185 is decimal 684185 0)
    ∷ (n358 is decimal 358 0)
    ∷ (n6434 is decimal 6434 0)
    ∷ (n141 is decimal 141 0)
    ∷ (n28007 is decimal 28007 0)
    ∷ (n107 is decimal 107 0)
    ∷ (n25697 is decimal 25697 0)
    ∷ (n95 is decimal 95 0)
    ∷ (n5904 is decimal 5904 0)
    ∷ (n130 is decimal 130 0)
    ∷ (n11141 is decimal 11141 0)
    ∷ (n48 is decimal 48 0)
    ∷ (n2559 is decimal 2559 0)
    ∷ (n55 is decimal 55 0)
    ∷ (n715 is decimal 715 0)
    ∷ (n6 is decimal 6 0)
    ∷ (n657 is decimal 657 0)
    ∷ (n15 is decimal 15 0)
    ∷ (n282 is decimal 282 0)
    ∷ (n656 is decimal 656 0)
    ∷ (n285 is decimal 285 0)
    ∷ (n486 is decimal 486 0)
    ∷ (n5 is decimal 5 0)
    ∷ (n236 is decimal 236 0)
    ∷ (n4 is decimal 4 0)
    ∷ (n216 is decimal 216 0)
    ∷ (n446 is decimal 446 0)
    ∷ (n94 is decimal 94 0)
    ∷ (n193 is decimal 193 0)
    ∷ (n3 is decimal 3 0)
    ∷ (n159 is decimal 159 0)
    ∷ (n147 is decimal 147 0)
    ∷ (n61 is decimal 61 0)
    ∷ (n26 is decimal 26 0)
    ∷ (n59 is decimal 59 0)
    ∷ (n39 is decimal 39 0)
    ∷ (n36 is decimal 36 0)
    ∷ (n16 is decimal 16 0)
    ∷ (n33 is decimal 33 0)
    ∷ (n9 is decimal 9 0)
    ∷ (n30 is decimal 30 0)
    ∷ (n31 is decimal 31 0)
    ∷ (n28 is decimal 28 0)
    ∷ (n12 is decimal 12 0)
    ∷ (n8 is decimal 8 0)
    ∷ (n11 is decimal 11 0)
    ∷ (n21 is decimal 21 0)
    ∷ (n19 is decimal 19 0)
    ∷ (n17 is decimal 17 0)
    ∷ (n7 is decimal 7 0)
    ∷ (n1 is decimal 1 0)
    ∷ (n14 is decimal 14 0)
    ∷ []

pub constants : Agrees rows
unfolding of_bits round
constants = refl
