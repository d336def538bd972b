-- Every star of a list under the rotation of two days, stored as star_store says.
use Rattle.std.specs.Prelude.{ℕ, List, Float, Result}
use Rattle.double.specs.rules.Operations.{zero}
use Rattle.quantity.specs.declared.Places.{Places}
use Rattle.quantity.specs.declared.Refusal.{Refusal}
use Rattle.list_tally.specs.declared.Tally.{Tally}
use Rattle.quantity.specs.rules.Answer.{checked, named, Answer, Pair, unless}
use Rattle.edition.specs.declared.Edition.{Edition}
use Rattle.elementary.specs.declared.Direction.{Direction}
use Rattle.elementary.specs.declared.TwoSinCos.{TwoSinCos}
use Rattle.elementary.specs.rules.Sine.{two_sin_cos_of}
use Rattle.list.specs.declared.Star.{Star}
use Rattle.star_place.specs.rules.Place.{years_between, asc_of, dec_of}
use Rattle.star_store.specs.rules.Star.{star_refusal, earlier}
use Rattle.star_store.specs.rules.Stored.{StarsStored}
use Rattle.rotation.specs.rules.Matrix.{Matrix}
use Rattle.rotation.specs.rules.Turns.{rotation_of}
use Rattle.rotation.specs.rules.Place.{toward, rotated_in, rotated_two}
use Rattle.rotation_list.specs.declared.Turn.{Turn}

-- the star's place, shifted by so many years, under a rotation. Refusals: 10; 9; 3; then 14; 7
unfoldable pub rotated_star : Matrix → Float → Star → Answer Pair
rotated_star m years star = unless (star_refusal star years) (rotated_in m (asc_of star years) (dec_of star years))

-- two stars side by side, every float of both fixed whatever is refused; `first_star` and `second_star` in laws/Star say that each has
-- the place that it has alone
unfoldable pub two_stars_rotated : Matrix → Float → Star → Star → Places Refusal
two_stars_rotated m years a b =
    let p = rotated_two m (toward (asc_of a years) (dec_of a years)) (toward (asc_of b years) (dec_of b years)) in
    record {
      first_asc = p.first_asc;
      second_asc = p.second_asc;
      first_dec = p.first_dec;
      second_dec = p.second_dec;
      first_check = named (earlier (star_refusal a years) (checked p.first_check));
      second_check = named (earlier (star_refusal b years) (checked p.second_check));
    }

-- ---- how it is done: two stars' places, and meanwhile the next two stars

-- the direction of the first of two stars, and of the second
abbrev pub first_aimed : TwoSinCos → TwoSinCos → Direction
first_aimed ascs decs =
    record { sin_asc = ascs.first_sine; cos_asc = ascs.first_cosine; sin_dec = decs.first_sine; cos_dec = decs.first_cosine }

abbrev pub second_aimed : TwoSinCos → TwoSinCos → Direction
second_aimed ascs decs =
    record { sin_asc = ascs.second_sine; cos_asc = ascs.second_cosine; sin_dec = decs.second_sine; cos_dec = decs.second_cosine }

-- the places of two stars by the sines and cosines of their angles, and those of the next two with the refusals of each
unfoldable pub two_turned : Matrix → TwoSinCos → TwoSinCos → Float → Star → Star → Turn
two_turned m ascs decs years a b =
    record {
      places = rotated_two m (first_aimed ascs decs) (second_aimed ascs decs);
      ascs = two_sin_cos_of (asc_of a years) (asc_of b years);
      decs = two_sin_cos_of (dec_of a years) (dec_of b years);
      first_check = named (star_refusal a years);
      second_check = named (star_refusal b years);
    }

-- what the first turn begins with
abbrev pub nowhere : TwoSinCos
nowhere = record { first_sine = zero; second_sine = zero; first_cosine = zero; second_cosine = zero }

-- each star's answer from the first day to the second
abbrev pub rotated_on : Edition → Float → Float → Star → Answer Pair
rotated_on edition day1 day2 star = rotated_star (rotation_of edition day1 day2) (years_between day1 day2) star

-- what a call leaves
abbrev pub Rotated : Edition → List ℕ → Float → Float → List ℕ → List ℕ → List ℕ → Result Tally Refusal → List ℕ → List ℕ → List ℕ → Type 0
Rotated edition s day1 day2 = StarsStored (rotated_on edition day1 day2) s day1 day2
