-- A heading by the night of two days that are not refused is that by the batch's rule; a night's nutation is that of sidereal time.
use Rattle.std.specs.Prelude.{◌≡◌, refl, Float}
use Rattle.std.proofs.Common.{ap}
use Rattle.quantity.specs.declared.Rad.{Rad}
use Rattle.quantity.specs.rules.Angle.{rad}
use Rattle.quantity.specs.rules.Answer.{Answer, Pair, first, second, then}
use Rattle.edition.specs.declared.Edition.{Edition}
use Rattle.precess_angles.specs.rules.Days.{days_refusal}
use Rattle.chain.specs.rules.Obliquity.{mean_obliquity_of}
use Rattle.chain.specs.rules.Night.{night_from, night_of}
use Rattle.list.specs.declared.Star.{Star}
use Rattle.batch.specs.laws.Star.{star_under_a_night}
use Rattle.sidereal.specs.rules.Mean.{mean_of}
use Rattle.sidereal.specs.rules.Apparent.{apparent_from, apparent_of}
use Rattle.heading.specs.rules.Sky.{sky_under}
use Rattle.heading.specs.rules.Heading.{heading_in, heading_under}

pub heading_under_a_night : (edition : Edition) (star : Star) (day1 day2 : Float) (long lat : Rad) → days_refusal day1 day2 ≡ 0
    → heading_under edition star day1 day2 long lat ≡ heading_in edition star day1 day2 long lat
unfolding heading_in heading_under
heading_under_a_night edition star day1 day2 long lat days =
    ap (λ (place : Answer Pair). then place (λ (p : Pair). sky_under (apparent_of day2) (rad (first p)) (rad (second p)) long lat))
    (star_under_a_night star day1 day2 days edition)

pub apparent_of_a_night : (edition : Edition) (day1 day2 : Float)
    → apparent_from (mean_of day2) (night_of edition day1 day2).nutation (mean_obliquity_of day2) ≡ apparent_of day2
unfolding night_from night_of apparent_of
apparent_of_a_night edition day1 day2 = refl
