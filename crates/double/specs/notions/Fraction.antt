-- A finite double is the fraction (plus_part − minus_part) / den, of which one part is zero. So the order of two, and each
-- operation, is one formula with no case for a sign.
use Rattle.std.specs.Prelude.{◌≡◌, ℕ, ◌+◌, ◌*◌, ◌≤◌, Bool, true, false, Float}
use Rattle.std.specs.Float.{nan, inf, fin, Format}
use Rattle.std.specs.Float.Ieee.{up, round}
use Rattle.std.specs.Float.Ieee.Positive.{den}

abbrev pub plus_part : Float → ℕ
plus_part nan = 0
plus_part (inf s) = 0
plus_part (fin true m e) = 0
plus_part (fin false m e) = m * up e

abbrev pub minus_part : Float → ℕ
minus_part nan = 0
minus_part (inf s) = 0
minus_part (fin true m e) = m * up e
minus_part (fin false m e) = 0

-- x ≤ y over the fractions
abbrev pub Below : Float → Float → Type 0
Below x y = plus_part x * den y + minus_part y * den x ≤ plus_part y * den x + minus_part x * den y

-- p − n is a with the sign s
abbrev pub Signed : Bool → ℕ → ℕ → ℕ → Type 0
Signed false p n a = p ≡ n + a
Signed true p n a = p + a ≡ n

-- z is (p − n) / d, rounded once; where that is zero it may have either sign
pub record Rounds (f : Format) (z : Float) (p n d : ℕ) : Type 0 where
  pub sign : Bool
  pub top : ℕ
  pub is : z ≡ round f sign top d
  pub value : Signed sign p n top
