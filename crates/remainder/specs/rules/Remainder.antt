-- The exact remainder, with the argument's sign.
use Rattle.std.specs.Prelude.{◌≡◌, true, ◌%◌, T, Float}
use Rattle.std.specs.Float.{binary64}
use Rattle.std.specs.Float.Ieee.{fits, rem}
use Rattle.double.specs.rules.Sign.{bears_minus, is_finite}
use Rattle.double.specs.rules.Count.{count}

-- of any two doubles, as IEEE 754's account has it
abbrev pub remainder_of : Float → Float → Float
remainder_of x y = rem binary64 x y

-- r is the remainder of x by y, both finite and y not zero: the double of x's sign that counts what is left of x's count by y's
pub record IsRemainder (x y r : Float) : Type 0 where
  pub held : T (fits binary64 r)
  pub finite : is_finite r ≡ true
  pub sign : bears_minus r ≡ bears_minus x
  pub rest : count r ≡ count x % count y
