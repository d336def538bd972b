-- Where a star's status is 3, and the statuses that its place alone can give it.
use Rattle.std.specs.Prelude.{ℕ, ◌≡◌, Bool, Float}
use Rattle.std.specs.Float.Ieee.{lt}
use Rattle.double.specs.rules.Sign.{size}
use Rattle.quantity.specs.rules.Angle.{HALF}
use Rattle.list.specs.declared.Star.{Star}
use Rattle.star_place.specs.rules.Place.{dec_of}

-- after so many years its declination exceeds HALF in size
abbrev pub is_past_the_pole : Star → Float → Bool
is_past_the_pole star years = lt HALF (size (dec_of star years).0)

-- none of 3, 9 and 10
pub record OfItsPlace (n : ℕ) : Type 0 where
  pub not_three : n ≡ 3 → ⊥
  pub not_nine : n ≡ 9 → ⊥
  pub not_ten : n ≡ 10 → ⊥
