-- What a turn has ready of two stars for the next.
use Rattle.std.specs.Prelude.{◌≡◌, Float}
use Rattle.elementary.specs.rules.Sine.{two_sin_cos_of}
use Rattle.quantity.specs.rules.Answer.{checked}
use Rattle.list.specs.declared.Star.{Star}
use Rattle.star_place.specs.rules.Place.{asc_of, dec_of}
use Rattle.star_store.specs.rules.Star.{star_refusal}
use Rattle.rotation_list.specs.declared.Turn.{Turn}

-- the sines and cosines of two stars, and what each is refused for before its place is taken
pub record Aimed (years : Float) (a b : Star) (t : Turn) : Type 0 where
  pub ascs_are : t.ascs ≡ two_sin_cos_of (asc_of a years) (asc_of b years)
  pub decs_are : t.decs ≡ two_sin_cos_of (dec_of a years) (dec_of b years)
  pub first_refused_lem : checked t.first_check ≡ star_refusal a years
  pub second_refused : checked t.second_check ≡ star_refusal b years
