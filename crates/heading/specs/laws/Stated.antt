-- A star's heading at stated stars, from 2415020.0 to 2451545.0, worked out over nutation and the Earth's velocity in numbers.
use Rattle.std.specs.Prelude.{◌≡◌, refl, ℕ, pos, ◌≢◌}
use Rattle.std.proofs.Common.{sym, ap, ◌∙◌}
use Rattle.double.specs.rules.Operations.{bits}
use Rattle.double.specs.laws.Apart.{apart}
use Rattle.quantity.specs.declared.Rad.{Rad}
use Rattle.quantity.specs.rules.Angle.{rad}
use Rattle.quantity.specs.rules.Answer.{Answer, answered, Pair, first, second, Triple, triple, then, unless}
use Rattle.quantity.specs.rules.Refusal.{epoch}
use Rattle.quantity.specs.notions.Code.{of_triple, of_answer}
use Rattle.quantity.specs.notions.Stated.{r0, r½, earlier}
use Rattle.quantity.specs.notions.Varies.{is_answered, Varies}
use Rattle.edition.specs.declared.Edition.{Edition}
use Rattle.edition.specs.declared.Edition.TheVariants.{Crate, Published}
use Rattle.precess_angles.specs.rules.Days.{days_refusal}
use Rattle.nutation_table.specs.rules.Day.{nutation_of}
use Rattle.aberr_table.specs.rules.Velocity.{velocity_of}
use Rattle.chain.specs.rules.Night.{night_of}
use Rattle.chain.specs.notions.Epoch.{nutation, velocity}
use Rattle.chain.specs.laws.Stated.{nutation_of_the_epoch, velocity_of_the_epoch}
use Rattle.list.specs.declared.Star.{Star}
use Rattle.list.specs.rules.Record.{in_range}
use Rattle.star_store.specs.rules.Star.{star_refusal}
use Rattle.star_store.specs.notions.Stated.{moving}
use Rattle.batch.specs.rules.Star.{star_rule, star_under_by, star_under}
use Rattle.batch.specs.laws.Star.{star_under_a_night}
use Rattle.sidereal.specs.rules.Mean.{mean_of}
use Rattle.sidereal.specs.rules.Apparent.{apparent_of}
use Rattle.sidereal.specs.notions.Computed as sidereal
use Rattle.heading.specs.rules.Sky.{sky_under}
use Rattle.heading.specs.rules.Heading.{heading_refusal, heading_in, heading_rule}
use Rattle.heading.specs.notions.Computed.{computed}
use Rattle.heading.specs.notions.Epoch.{place_from, heading_from}
use Rattle.heading.specs.notions.Wrong.{stays, rates_forgotten, edition_ignored, mean_for_apparent}

days_taken : days_refusal earlier epoch ≡ 0
unfolding sidereal.computed
days_taken = refl

place_from_them : (edition : Edition) (star : Star) → star_rule edition star earlier epoch ≡ place_from edition star (nutation_of epoch) (velocity_of epoch)
unfolding night_of
place_from_them edition star = sym (star_under_a_night star earlier epoch days_taken edition)

heading_worked_out : (edition : Edition) (star : Star) (long lat : Rad)
    → heading_in edition star earlier epoch long lat ≡ heading_from edition star long lat nutation velocity
unfolding heading_in apparent_of
heading_worked_out edition star long lat =
    ap
    (λ (place : Answer Pair). then place (λ (p : Pair). sky_under (apparent_of epoch) (rad (first p)) (rad (second p)) long lat))
    (place_from_them edition star)
    ∙ (λ i. heading_from edition star long lat (nutation_of_the_epoch i) (velocity_of_the_epoch i))

-- ---- the star of 60 and 30 degrees that moves, and the same that does not, from longitude 0.0 and latitude 0.5

-- the heading 34.579818036291414, the azimuth −145.4201819637086 and the altitude −20.21564665552853
abbrev of_moving : Triple
of_moving = triple (bits 0x40414a377a37c054) (bits 0xc0622d7221720feb) (bits 0xc03437349e84fca0)

-- 35.34276943729222, −144.65723056270778 and −20.37946043678646
abbrev of_staying : Triple
of_staying = triple (bits 0x4041abdfde719e84) (bits 0xc06215080863985f) (bits 0xc034612451b61fac)

moving_worked_out : heading_from Crate moving r0 r½ nutation velocity ≡ answered of_moving
unfolding computed sidereal.computed star_under_by star_refusal in_range
moving_worked_out = refl

staying_worked_out : heading_from Crate (stays moving) r0 r½ nutation velocity ≡ answered of_staying
unfolding computed sidereal.computed star_under_by star_refusal in_range
staying_worked_out = refl

moving_in : heading_in Crate moving earlier epoch r0 r½ ≡ answered of_moving
moving_in = heading_worked_out Crate moving r0 r½ ∙ moving_worked_out

staying_in : heading_in Crate (stays moving) earlier epoch r0 r½ ≡ answered of_staying
staying_in = heading_worked_out Crate (stays moving) r0 r½ ∙ staying_worked_out

place_taken : heading_refusal earlier epoch r0 r½ ≡ 0
unfolding computed sidereal.computed heading_refusal
place_taken = refl

pub heading_of_a_moving_star : heading_rule Crate 216000000 (pos 108000000) (pos 20000) (pos 20000) earlier epoch r0 r½ ≡ answered of_moving
unfolding heading_rule
heading_of_a_moving_star = ap (λ (n : ℕ). unless n (heading_in Crate moving earlier epoch r0 r½)) place_taken ∙ moving_in

pub heading_of_a_staying_star : heading_rule Crate 216000000 (pos 108000000) (pos 0) (pos 0) earlier epoch r0 r½ ≡ answered of_staying
unfolding heading_rule
heading_of_a_staying_star = ap (λ (n : ℕ). unless n (heading_in Crate (stays moving) earlier epoch r0 r½)) place_taken ∙ staying_in

apart_by_rates : answered of_moving ≢ answered of_staying
unfolding computed
apart_by_rates = apart (of_answer of_triple) refl

pub heading_varies : Varies (heading_rule Crate 216000000 (pos 108000000) (pos 20000) (pos 20000) earlier epoch r0 r½)
    (heading_rule Crate 216000000 (pos 108000000) (pos 0) (pos 0) earlier epoch r0 r½)
heading_varies =
    record {
      here = ap is_answered heading_of_a_moving_star;
      there = ap is_answered heading_of_a_staying_star;
      apart = λ e. apart_by_rates (sym heading_of_a_moving_star ∙ e ∙ heading_of_a_staying_star);
    }

pub rates_forgotten_excluded : rates_forgotten Crate moving earlier epoch r0 r½ ≢ heading_in Crate moving earlier epoch r0 r½
rates_forgotten_excluded e = apart_by_rates (sym moving_in ∙ sym e ∙ staying_in)

-- Meeus's precession, by which the heading is 34.5794928923107
published_worked_out : heading_from Published moving r0 r½ nutation velocity
    ≡ answered (triple (bits 0x40414a2cd2b65e94) (bits 0xc0622d74cb52685b) (bits 0xc0343730a63ea8c3))
unfolding computed sidereal.computed star_under_by star_refusal in_range
published_worked_out = refl

apart_by_edition : answered of_moving ≢ answered (triple (bits 0x40414a2cd2b65e94) (bits 0xc0622d74cb52685b) (bits 0xc0343730a63ea8c3))
unfolding computed
apart_by_edition = apart (of_answer of_triple) refl

pub edition_ignored_excluded : edition_ignored Published moving earlier epoch r0 r½ ≢ heading_in Published moving earlier epoch r0 r½
edition_ignored_excluded e = apart_by_edition (sym moving_in ∙ e ∙ heading_worked_out Published moving r0 r½ ∙ published_worked_out)

-- sidereal time without nutation
abbrev mean_from : Answer Triple
mean_from =
    then (place_from Crate moving nutation velocity) (λ (p : Pair). sky_under (mean_of epoch) (rad (first p)) (rad (second p)) r0 r½)

mean_worked_out : mean_for_apparent Crate moving earlier epoch r0 r½ ≡ mean_from
mean_worked_out =
    ap (λ (place : Answer Pair). then place (λ (p : Pair). sky_under (mean_of epoch) (rad (first p)) (rad (second p)) r0 r½))
    (place_from_them Crate moving ∙ (λ i. place_from Crate moving (nutation_of_the_epoch i) (velocity_of_the_epoch i)))

apart_by_nutation : mean_from ≢ answered of_moving
unfolding computed sidereal.computed star_under_by star_refusal in_range
apart_by_nutation = apart (of_answer of_triple) refl

pub mean_for_apparent_excluded : mean_for_apparent Crate moving earlier epoch r0 r½ ≢ heading_in Crate moving earlier epoch r0 r½
mean_for_apparent_excluded e = apart_by_nutation (sym mean_worked_out ∙ e ∙ moving_in)
