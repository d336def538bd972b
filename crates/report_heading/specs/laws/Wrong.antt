-- Wrong variants are excluded: each differs from the rule at the input stated.
use Rattle.std.specs.Prelude.{◌≡◌, refl, false, ◌++◌, ◌≢◌, None, Some}
use Rattle.double.specs.rules.Operations.{bits, zero, one}
use Rattle.double.specs.laws.Apart.{apart}
use Rattle.quantity.specs.declared.Deg.{Deg}
use Rattle.quantity.specs.rules.Angle.{deg}
use Rattle.quantity.specs.rules.Answer.{answered, refused, triple}
use Rattle.edition.specs.declared.Edition.TheVariants.{Crate, Published}
use Rattle.text_number.specs.rules.Bytes.{ascii}
use Rattle.text_number.specs.notions.Code.{of_text}
use Rattle.report_heading.specs.declared.Sight.{Sight}
use Rattle.report_heading.specs.rules.Sight.{sky_text, lines_text, beside_text, bearings_text}
use Rattle.report_heading.specs.notions.Computed.{computed}
use Rattle.report_heading.specs.notions.Wrong.{seen_below_the_horizon, refraction_taken_away, azimuth_for_heading, edition_lost, star_for_mark}

-- 0.0, 1.0 and −1.0 degrees
abbrev d0 : Deg
d0 = deg zero

abbrev d1 : Deg
d1 = deg one

abbrev below : Deg
below = deg (bits 0xbff0000000000000)

-- of star 7, from 1 and 1
abbrev sight : Sight
sight = record { number = 7; day1 = zero; day2 = zero; long = d1; lat = d1; utc = false }

pub seen_below_the_horizon_excluded : seen_below_the_horizon d1 below ≢ sky_text d1 below
unfolding computed
seen_below_the_horizon_excluded = apart of_text refl

pub refraction_taken_away_excluded : refraction_taken_away d1 d1 ≢ sky_text d1 d1
unfolding computed
refraction_taken_away_excluded = apart of_text refl

pub azimuth_for_heading_excluded : azimuth_for_heading Crate sight d0 d1 below ≢ lines_text Crate sight d0 d1 below
unfolding computed
azimuth_for_heading_excluded = apart of_text refl

pub edition_lost_excluded : edition_lost Published sight d0 d1 below ≢ lines_text Published sight d0 d1 below
unfolding computed
edition_lost_excluded = apart of_text refl

pub star_for_mark_excluded : star_for_mark Crate sight d0 d1 below (answered d1) ≢ beside_text Crate sight d0 d1 below (answered d1)
unfolding computed
star_for_mark_excluded = apart of_text refl

-- a circle's reading past a turn: the refusal alone
pub refused_alone : bearings_text Crate sight (answered (triple zero one one)) (Some (record { star = d1; mark = deg (bits 0x4076800000000000) }))
    ≡ ascii "refused 3: a reading is not from 0 to below 360 degrees: check both\n"
unfolding computed
refused_alone = refl

-- likewise of a place past its range, or a star that is
pub sight_refused_alone : bearings_text Crate sight (refused 3) None
    ≡ ascii "refused 3: LATITUDE is past 90 degrees, LONGITUDE past 3666, or the star is carried past the pole: check them\n"
unfolding computed
sight_refused_alone = refl

-- the heading 276.16843, the azimuth 96.16843 and the altitude 68.12246, from 71.0833 and 42.3333
abbrev at_home : Sight
at_home =
    record {
      number = 1457;
      day1 = zero;
      day2 = zero;
      long = deg (bits 0x4051c554c985f06f);
      lat = deg (bits 0x40452aa9930be0df);
      utc = false;
    }

pub a_sight : bearings_text Published at_home
    (answered (triple (bits 0x407142b1e3a7daa5) (bits 0x40580ac78e9f6a94) (bits 0x405107d66277c45d))) None
    ≡ ascii "place            71.08 W, 42.33 N\nedition          published\nstar             1457\n"
    ++ (ascii "heading          276d10'06.3\" from north, clockwise\nazimuth           96d10'06.3\" from south, west positive\n"
    ++ ascii "altitude          68d07'20.9\", seen at 68d07'45.3\"\n")
unfolding computed
a_sight = refl
