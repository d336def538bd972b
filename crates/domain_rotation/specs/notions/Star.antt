-- What a star under a rotation can be answered: the statuses, the places, and where it is refused by 14 and by 7.
use Rattle.std.specs.Prelude.{ℕ, ◌≡◌, ◌⊎◌, Bool, not, ◌&&◌, Float}
use Rattle.std.specs.Float.Ieee.{neg, lt}
use Rattle.double.specs.rules.Operations.{one}
use Rattle.double.specs.rules.Sign.{size}
use Rattle.double.specs.rules.Order.{Between}
use Rattle.quantity.specs.declared.Rad.{Rad}
use Rattle.quantity.specs.rules.Angle.{PI, HALF}
use Rattle.quantity.specs.rules.Answer.{Pair, first, second}
use Rattle.elementary_arc.specs.rules.Arctangent.{both_zero}
use Rattle.rotation.specs.rules.Matrix.{Matrix, part}
use Rattle.rotation.specs.rules.Place.{turned}

abbrev pub OfARotatedStar : ℕ → Type 0
OfARotatedStar n = (n ≡ 0) ⊎ (n ≡ 3) ⊎ (n ≡ 7) ⊎ (n ≡ 9) ⊎ (n ≡ 10) ⊎ (n ≡ 14)

-- a right ascension of half a turn at most, and a declination of a quarter
abbrev pub IsRotated : Pair → Type 0
IsRotated p = Between (neg PI) PI (first p) × Between (neg HALF) HALF (second p)

-- a place's vector comes to lie in the third axis
abbrev pub turned_nowhere : Matrix → Rad → Rad → Bool
turned_nowhere m asc dec = both_zero (part (turned m asc dec) 1) (part (turned m asc dec) 0)

-- it does not, and its height exceeds 1 in size
abbrev pub turned_too_high : Matrix → Rad → Rad → Bool
turned_too_high m asc dec = not (turned_nowhere m asc dec) && lt one (size (part (turned m asc dec) 2))
