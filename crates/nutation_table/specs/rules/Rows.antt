-- The table of 63 rows of nine whole numbers: how often D, M, M', F and Ω enter the argument;
-- the coefficients of longitude and of obliquity, each with its slow part. p is plus, m is minus.
use Rattle.std.specs.Prelude.{List, [], ◌∷◌, ℕ, get_or, ℤ, pos, neg_ℤ}
use Rattle.nutation_args.specs.declared.Row.{Row}

abbrev p : ℕ → ℤ
p n = pos n

abbrev m : ℕ → ℤ
m n = neg_ℤ (pos n)

abbrev row : ℤ → ℤ → ℤ → ℤ → ℤ → ℤ → ℤ → ℤ → ℤ → List ℤ
row d m m1 f om long slow_long oblq slow_oblq = d ∷ m ∷ m1 ∷ f ∷ om ∷ long ∷ slow_long ∷ oblq ∷ slow_oblq ∷ []

abbrev pub table : List (List ℤ)
table =
    row (p 0) (p 0) (p 0) (p 0) (p 1) (m 171996) (m 1742) (p 92025) (p 89)
    ∷ row (m 2) (p 0) (p 0) (p 2) (p 2) (m 13187) (m 16) (p 5736) (m 31)
    ∷ row (p 0) (p 0) (p 0) (p 2) (p 2) (m 2274) (m 2) (p 977) (m 5)
    ∷ row (p 0) (p 0) (p 0) (p 0) (p 2) (p 2062) (p 2) (m 895) (p 5)
    ∷ row (p 0) (p 1) (p 0) (p 0) (p 0) (p 1426) (m 34) (p 54) (m 1)
    ∷ row (p 0) (p 0) (p 1) (p 0) (p 0) (p 712) (p 1) (m 7) (p 0)
    ∷ row (m 2) (p 1) (p 0) (p 2) (p 2) (m 517) (p 12) (p 224) (m 6)
    ∷ row (p 0) (p 0) (p 0) (p 2) (p 1) (m 386) (m 4) (p 200) (p 0)
    ∷ row (p 0) (p 0) (p 1) (p 2) (p 2) (m 301) (p 0) (p 129) (m 1)
    ∷ row (m 2) (m 1) (p 0) (p 2) (p 2) (p 217) (m 5) (m 95) (p 3)
    ∷ row (m 2) (p 0) (p 1) (p 0) (p 0) (m 158) (p 0) (p 0) (p 0)
    ∷ row (m 2) (p 0) (p 0) (p 2) (p 1) (p 129) (p 1) (m 70) (p 0)
    ∷ row (p 0) (p 0) (m 1) (p 2) (p 2) (p 123) (p 0) (m 53) (p 0)
    ∷ row (p 2) (p 0) (p 0) (p 0) (p 0) (p 63) (p 0) (p 0) (p 0)
    ∷ row (p 0) (p 0) (p 1) (p 0) (p 1) (p 63) (p 1) (m 33) (p 0)
    ∷ row (p 2) (p 0) (m 1) (p 2) (p 2) (m 59) (p 0) (p 26) (p 0)
    ∷ row (p 0) (p 0) (m 1) (p 0) (p 1) (m 58) (m 1) (p 32) (p 0)
    ∷ row (p 0) (p 0) (p 1) (p 2) (p 1) (m 51) (p 0) (p 27) (p 0)
    ∷ row (m 2) (p 0) (p 2) (p 0) (p 0) (p 48) (p 0) (p 0) (p 0)
    ∷ row (p 0) (p 0) (m 2) (p 2) (p 1) (p 46) (p 0) (m 24) (p 0)
    ∷ row (p 2) (p 0) (p 0) (p 2) (p 2) (m 38) (p 0) (p 16) (p 0)
    ∷ row (p 0) (p 0) (p 2) (p 2) (p 2) (m 31) (p 0) (p 13) (p 0)
    ∷ row (p 0) (p 0) (p 2) (p 0) (p 0) (p 29) (p 0) (p 0) (p 0)
    ∷ row (m 2) (p 0) (p 1) (p 2) (p 2) (p 29) (p 0) (m 12) (p 0)
    ∷ row (p 0) (p 0) (p 0) (p 2) (p 0) (p 26) (p 0) (p 0) (p 0)
    ∷ row (m 2) (p 0) (p 0) (p 2) (p 0) (m 22) (p 0) (p 0) (p 0)
    ∷ row (p 0) (p 0) (m 1) (p 2) (p 1) (p 21) (p 0) (m 10) (p 0)
    ∷ row (p 0) (p 2) (p 0) (p 0) (p 0) (p 17) (m 1) (p 0) (p 0)
    ∷ row (p 2) (p 0) (m 1) (p 0) (p 1) (p 16) (p 0) (m 8) (p 0)
    ∷ row (m 2) (p 2) (p 0) (p 2) (p 2) (m 16) (p 1) (p 7) (p 0)
    ∷ row (p 0) (p 1) (p 0) (p 0) (p 1) (m 15) (p 0) (p 9) (p 0)
    ∷ row (m 2) (p 0) (p 1) (p 0) (p 1) (m 13) (p 0) (p 7) (p 0)
    ∷ row (p 0) (m 1) (p 0) (p 0) (p 1) (m 12) (p 0) (p 6) (p 0)
    ∷ row (p 0) (p 0) (p 2) (m 2) (p 0) (p 11) (p 0) (p 0) (p 0)
    ∷ row (p 2) (p 0) (m 1) (p 2) (p 1) (m 10) (p 0) (p 5) (p 0)
    ∷ row (p 2) (p 0) (p 1) (p 2) (p 2) (m 8) (p 0) (p 3) (p 0)
    ∷ row (p 0) (p 1) (p 0) (p 2) (p 2) (p 7) (p 0) (m 3) (p 0)
    ∷ row (m 2) (p 1) (p 1) (p 0) (p 0) (m 7) (p 0) (p 0) (p 0)
    ∷ row (p 0) (m 1) (p 0) (p 2) (p 2) (m 7) (p 0) (p 3) (p 0)
    ∷ row (p 2) (p 0) (p 0) (p 2) (p 1) (m 7) (p 0) (p 3) (p 0)
    ∷ row (p 2) (p 0) (p 1) (p 0) (p 0) (p 6) (p 0) (p 0) (p 0)
    ∷ row (m 2) (p 0) (p 2) (p 2) (p 2) (p 6) (p 0) (m 3) (p 0)
    ∷ row (m 2) (p 0) (p 1) (p 2) (p 1) (p 6) (p 0) (m 3) (p 0)
    ∷ row (p 2) (p 0) (m 2) (p 0) (p 1) (m 6) (p 0) (p 3) (p 0)
    ∷ row (p 2) (p 0) (p 0) (p 0) (p 1) (m 6) (p 0) (p 3) (p 0)
    ∷ row (p 0) (m 1) (p 1) (p 0) (p 0) (p 5) (p 0) (p 0) (p 0)
    ∷ row (m 2) (m 1) (p 0) (p 2) (p 1) (m 5) (p 0) (p 3) (p 0)
    ∷ row (m 2) (p 0) (p 0) (p 0) (p 1) (m 5) (p 0) (p 3) (p 0)
    ∷ row (p 0) (p 0) (p 2) (p 2) (p 1) (m 5) (p 0) (p 3) (p 0)
    ∷ row (m 2) (p 0) (p 2) (p 0) (p 1) (p 4) (p 0) (p 0) (p 0)
    ∷ row (m 2) (p 1) (p 0) (p 2) (p 1) (p 4) (p 0) (p 0) (p 0)
    ∷ row (p 0) (p 0) (p 1) (m 2) (p 0) (p 4) (p 0) (p 0) (p 0)
    ∷ row (m 1) (p 0) (p 1) (p 0) (p 0) (m 4) (p 0) (p 0) (p 0)
    ∷ row (m 2) (p 1) (p 0) (p 0) (p 0) (m 4) (p 0) (p 0) (p 0)
    ∷ row (p 1) (p 0) (p 0) (p 0) (p 0) (m 4) (p 0) (p 0) (p 0)
    ∷ row (p 0) (p 0) (p 1) (p 2) (p 0) (p 3) (p 0) (p 0) (p 0)
    ∷ row (p 0) (p 0) (m 2) (p 2) (p 2) (m 3) (p 0) (p 0) (p 0)
    ∷ row (m 1) (m 1) (p 1) (p 0) (p 0) (m 3) (p 0) (p 0) (p 0)
    ∷ row (p 0) (p 1) (p 1) (p 0) (p 0) (m 3) (p 0) (p 0) (p 0)
    ∷ row (p 0) (m 1) (p 1) (p 2) (p 2) (m 3) (p 0) (p 0) (p 0)
    ∷ row (p 2) (m 1) (m 1) (p 2) (p 2) (m 3) (p 0) (p 0) (p 0)
    ∷ row (p 0) (p 0) (p 3) (p 2) (p 2) (m 3) (p 0) (p 0) (p 0)
    ∷ row (p 2) (m 1) (p 0) (p 2) (p 2) (m 3) (p 0) (p 0) (p 0)
    ∷ []

-- a row by its nine numbers
abbrev pub row_of : List ℤ → Row
row_of x =
    record {
      0 = get_or x 0 (pos 0);
      1 = get_or x 1 (pos 0);
      2 = get_or x 2 (pos 0);
      3 = get_or x 3 (pos 0);
      4 = get_or x 4 (pos 0);
      5 = get_or x 5 (pos 0);
      6 = get_or x 6 (pos 0);
      7 = get_or x 7 (pos 0);
      8 = get_or x 8 (pos 0);
    }

abbrev pub rows_of : List (List ℤ) → List Row
rows_of [] = []
rows_of (x ∷ xs) = row_of x ∷ rows_of xs

abbrev pub rows : List Row
rows = rows_of table
