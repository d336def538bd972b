-- The table: how often which angle enters the argument, up to three times; the mark; the index of the row that holds the parts in T; and
-- for x, y and z the coefficients of sine and cosine. p is plus, m is minus, o is nothing.
use Rattle.std.specs.Prelude.{List, [], ◌∷◌, Bool, true, ◌&&◌, ℕ, ltb, ℤ, pos, neg_ℤ, take}
use Rattle.aberr_args.specs.declared.Arguments.{Arguments}
use Rattle.aberr_args.specs.declared.Velocity.{Velocity}
use Rattle.aberr_args.specs.declared.Row.{Row}
use Rattle.aberr_args.specs.rules.Row.{with_row}

abbrev pub p : ℕ → ℤ
p n = pos n

abbrev pub m : ℕ → ℤ
m n = neg_ℤ (pos n)

abbrev pub o : ℤ
o = pos 0

-- the angles by their numbers
abbrev pub no : ℕ
no = 0

abbrev L1 : ℕ
L1 = 1

abbrev L2 : ℕ
L2 = 2

abbrev pub L3 : ℕ
L3 = 3

abbrev L4 : ℕ
L4 = 4

abbrev L5 : ℕ
L5 = 5

abbrev L6 : ℕ
L6 = 6

abbrev L7 : ℕ
L7 = 7

abbrev L8 : ℕ
L8 = 8

abbrev D : ℕ
D = 9

abbrev M1 : ℕ
M1 = 10

abbrev F : ℕ
F = 11

-- the mark: where the crate has one product of a sum or a difference, A of the argument, X and Z of the sums
abbrev pub plain : ℕ
plain = 0

abbrev pub A : ℕ
A = 1

abbrev X : ℕ
X = 2

abbrev pub Z : ℕ
Z = 4

abbrev pub AZ : ℕ
AZ = 5

abbrev AXZ : ℕ
AXZ = 7

-- the row that holds a row's parts in T, by its index: none, or those of rows 1, 2 and 5, behind the 36
abbrev pub T0 : ℕ
T0 = 0

abbrev pub T1 : ℕ
T1 = 36

abbrev pub T2 : ℕ
T2 = 37

abbrev T5 : ℕ
T5 = 38

abbrev pub row : ℤ → ℕ → ℤ → ℕ → ℤ → ℕ → ℕ → ℕ → ℤ → ℤ → ℤ → ℤ → ℤ → ℤ → Row
row k a l b n c mark parts xs xc ys yc zs zc =
    record {
      0 = k;
      1 = a;
      2 = l;
      3 = b;
      4 = n;
      5 = c;
      6 = mark;
      7 = parts;
      8 = xs;
      9 = xc;
      10 = ys;
      11 = yc;
      12 = zs;
      13 = zc;
    }

-- the 36 rows; then the parts in T of three of them, which have no argument of their own
abbrev pub table : List Row
table =
    row (p 1) L3 o no o no plain T1 (m 1719914) (m 25) (p 25) (p 1578089) (p 10) (p 684185)
    ∷ row (p 2) L3 o no o no plain T2 (p 6434) (p 28007) (p 25697) (m 5904) (p 11141) (m 2559)
    ∷ row (p 1) L5 o no o no plain T0 (p 715) o (p 6) (m 657) (m 15) (m 282)
    ∷ row (p 1) L1 o no o no plain T0 (p 715) o o (m 656) o (m 285)
    ∷ row (p 3) L3 o no o no plain T5 (p 486) (m 236) (m 216) (m 446) (m 94) (m 193)
    ∷ row (p 1) L6 o no o no plain T0 (p 159) o (p 2) (m 147) (m 6) (m 61)
    ∷ row (p 1) F o no o no plain T0 o o o (p 26) o (m 59)
    ∷ row (p 1) L1 (p 1) M1 o no plain T0 (p 39) o o (m 36) o (m 16)
    ∷ row (p 2) L5 o no o no plain T0 (p 33) (m 10) (m 9) (m 30) (m 5) (m 13)
    ∷ row (p 2) L3 (m 1) L5 o no plain T0 (p 31) (p 1) (p 1) (m 28) o (m 12)
    ∷ row (p 3) L3 (m 8) L4 (p 3) L5 plain T0 (p 8) (m 28) (p 25) (p 8) (p 11) (p 3)
    ∷ row (p 5) L3 (m 8) L4 (p 3) L5 plain T0 (p 8) (m 28) (m 25) (m 8) (m 11) (m 3)
    ∷ row (p 2) L2 (m 1) L3 o no plain T0 (p 21) o o (m 19) o (m 8)
    ∷ row (p 1) L2 o no o no plain T0 (m 19) o o (p 17) o (p 8)
    ∷ row (p 1) L7 o no o no plain T0 (p 17) o o (m 16) o (m 7)
    ∷ row (p 1) L3 (m 2) L5 o no plain T0 (p 16) o o (p 15) (p 1) (p 7)
    ∷ row (p 1) L8 o no o no plain T0 (p 16) o (p 1) (m 15) (m 3) (m 6)
    ∷ row (p 1) L3 (p 1) L5 o no plain T0 (p 11) (m 1) (m 1) (m 10) (m 1) (m 5)
    ∷ row (p 2) L2 (m 2) L3 o no A T0 o (m 11) (m 10) o (m 4) o
    ∷ row (p 1) L3 (m 1) L5 o no plain T0 (m 11) (m 2) (m 2) (p 9) (m 1) (p 4)
    ∷ row (p 4) L3 o no o no Z T0 (m 7) (m 8) (m 8) (p 6) (m 3) (p 3)
    ∷ row (p 3) L3 (m 2) L5 o no plain T0 (m 10) o o (p 9) o (p 4)
    ∷ row (p 1) L2 (m 2) L3 o no plain T0 (m 9) o o (m 9) o (m 4)
    ∷ row (p 2) L2 (m 3) L3 o no plain T0 (m 9) o o (m 8) o (m 4)
    ∷ row (p 2) L6 o no o no plain T0 o (m 9) (m 8) o (m 3) o
    ∷ row (p 2) L2 (m 4) L3 o no plain T0 o (m 9) (p 8) o (p 3) o
    ∷ row (p 3) L3 (m 2) L4 o no plain T0 (p 8) o o (m 8) o (m 3)
    ∷ row (p 1) L1 (p 2) D (m 1) M1 plain T0 (p 8) o o (m 7) o (m 3)
    ∷ row (p 8) L2 (m 12) L3 o no plain T0 (m 4) (m 7) (m 6) (p 4) (m 3) (p 2)
    ∷ row (p 8) L2 (m 14) L3 o no plain T0 (m 4) (m 7) (p 6) (m 4) (p 3) (m 2)
    ∷ row (p 2) L4 o no o no Z T0 (m 6) (m 5) (m 4) (p 5) (m 2) (p 2)
    ∷ row (p 3) L2 (m 4) L3 o no X T0 (m 1) (m 1) (m 2) (m 7) (p 1) (m 4)
    ∷ row (p 2) L3 (m 2) L5 o no AZ T0 (p 4) (m 6) (m 5) (m 4) (m 2) (m 2)
    ∷ row (p 3) L2 (m 3) L3 o no A T0 o (m 7) (m 6) o (m 3) o
    ∷ row (p 2) L3 (m 2) L4 o no AXZ T0 (p 5) (m 5) (m 4) (m 5) (m 2) (m 2)
    ∷ row (p 1) L1 (m 2) D o no plain T0 (p 5) o o (m 5) o (m 2)
    ∷ row o no o no o no plain T0 (m 2) o (m 13) (p 156) (p 32) (m 358)
    ∷ row o no o no o no plain T0 (p 141) (m 107) (m 95) (m 130) (m 48) (m 55)
    ∷ row o no o no o no plain T0 (m 5) (m 4) (m 4) (p 5) o o
    ∷ []

-- each row names one of so many
abbrev pub named : ℕ → List Row → Bool
named n [] = true
named n (x ∷ xs) = ltb x.7 n && named n xs

-- the sums v with rows of a table, in their order
unfoldable pub walked : List Row → List Row → Arguments → Velocity → Velocity
walked table [] g v = v
walked table (x ∷ xs) g v = walked table xs g (with_row x table g v)

-- the walk over a table's first 36 rows
abbrev pub walk : List Row → Arguments → Velocity → Velocity
walk table = walked table (take 36 table)
