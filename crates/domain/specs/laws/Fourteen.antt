-- Every function whose work can meet 14 does so at the input stated: there it has no direction to give.
use Rattle.std.specs.Prelude.{◌≡◌, refl, Bool, true, false, pos, negsuc, Float}
use Rattle.double.specs.rules.Operations.{bits, zero}
use Rattle.double.specs.notions.Stated.{minus_zero}
use Rattle.quantity.specs.declared.Rad.{Rad}
use Rattle.quantity.specs.declared.GeographPoint.{GeographPoint}
use Rattle.quantity.specs.rules.Angle.{rad, HALF}
use Rattle.quantity.specs.rules.Answer.{refused}
use Rattle.quantity.specs.rules.Refusal.{epoch}
use Rattle.quantity.specs.notions.Stated.{r0, earlier, origin}
use Rattle.edition.specs.declared.Edition.{Edition}
use Rattle.edition.specs.declared.Edition.TheVariants.{Crate, Published}
use Rattle.elementary_arc.specs.rules.Arctangent.{arctangent_rule}
use Rattle.helpers.specs.rules.Angle.{radians_of}
use Rattle.helpers_earth.specs.rules.Earth.{rho_in}
use Rattle.coords.specs.rules.Horizon.{azimuth_in, az_frm_eq_rule, hr_angl_frm_hz_in, hr_angl_frm_hz_rule}
use Rattle.coords_gal.specs.rules.Galactic.{gal_pole_asc, gal_pole_dec, cel_pole_long, round_pole, gal_long_in, gal_long_frm_eq_rule, asc_frm_gal_in, asc_frm_gal_rule}
use Rattle.precess.specs.rules.Equatorial.{precess_eq_coords_rule, precess_eq_coords_FK5_rule}
use Rattle.parallax.specs.rules.Observer.{centre_of, observer_refusal}
use Rattle.parallax.specs.rules.Equatorial.{eastward, ahead, topocent_at, topocent_in, topocent_eq_coords_rule}
use Rattle.chain.specs.rules.Chain.{chain_rule}
use Rattle.chain.specs.notions.Computed.{computed}
use Rattle.list.specs.declared.Star.{Star}
use Rattle.list.specs.rules.Record.{in_range}
use Rattle.star_store.specs.rules.Star.{star_refusal}
use Rattle.batch.specs.rules.Star.{star_rule}

abbrev zero_of : Bool → Float
zero_of true = minus_zero
zero_of false = zero

-- zeros of either sign
pub arctangent_meets_fourteen : (s t : Bool) → arctangent_rule (zero_of s) (zero_of t) ≡ refused 14
unfolding computed
arctangent_meets_fourteen true true = refl
arctangent_meets_fourteen true false = refl
arctangent_meets_fourteen false true = refl
arctangent_meets_fourteen false false = refl

-- ---- changes of frame

-- at the zenith of the equator
pub az_frm_eq_meets_fourteen : az_frm_eq_rule r0 r0 r0 ≡ refused 14
unfolding computed azimuth_in
az_frm_eq_meets_fourteen = refl

-- at the pole, as it is seen from the equator
pub hr_angl_frm_hz_meets_fourteen : hr_angl_frm_hz_rule r0 r0 r0 ≡ refused 14
unfolding computed hr_angl_frm_hz_in
hr_angl_frm_hz_meets_fourteen = refl

-- at the galactic pole
pub gal_long_frm_eq_meets_fourteen : gal_long_frm_eq_rule (radians_of gal_pole_asc) (radians_of gal_pole_dec) ≡ refused 14
unfolding computed round_pole gal_long_in
gal_long_frm_eq_meets_fourteen = refl

-- at the celestial pole
pub asc_frm_gal_meets_fourteen : asc_frm_gal_rule (radians_of cel_pole_long) (radians_of gal_pole_dec) ≡ refused 14
unfolding computed round_pole asc_frm_gal_in
asc_frm_gal_meets_fourteen = refl

-- ---- parallax: from the equator, a body at the parallax of a quarter turn

abbrev place : GeographPoint
place = record { long = zero; lat = zero }

pub topocent_eq_coords_meets_fourteen : topocent_eq_coords_rule origin (rad HALF) place zero r0 ≡ refused 14
unfolding computed rho_in centre_of observer_refusal eastward ahead topocent_at topocent_in
topocent_eq_coords_meets_fourteen = refl

-- ---- precession and the chain, at the point that comes to the pole

-- from the epoch to 2558198.0
abbrev asc : Rad
asc = rad (bits 0xbfa0b92c872917e9)

abbrev dec : Rad
dec = rad (bits 0x3ff8addaab05aec1)

abbrev day : Float
day = bits 0x4143847b00000000

pub precess_eq_coords_meets_fourteen : (e : Edition) → precess_eq_coords_rule e asc dec epoch day ≡ refused 14
unfolding computed
precess_eq_coords_meets_fourteen Crate = refl
precess_eq_coords_meets_fourteen Published = refl

pub chain_meets_fourteen : (e : Edition) → chain_rule e asc dec epoch day ≡ refused 14
unfolding computed chain_rule
chain_meets_fourteen Crate = refl
chain_meets_fourteen Published = refl

-- of a list's star in the crate's edition, from 3178490.5 to 1770538.0069913559: the batch stores 14
abbrev star : Star
star = record { number = 7; asc = 90561088; dec = negsuc 247842963; asc_rate = pos 0; dec_rate = pos 0 }

pub star_meets_fourteen : star_rule Crate star (bits 0x41483ffd40000000) (bits 0x413b042a01ca2f7d) ≡ refused 14
unfolding computed star_rule star_refusal in_range
star_meets_fourteen = refl

-- of the FK4 system from the epoch: to a century before it in the crate's edition, to 2468438.1875 in the published one
pub precess_eq_coords_fk5_meets_fourteen : precess_eq_coords_FK5_rule Crate (rad (bits 0x3fe47e1764b16bca)) (rad (bits 0xbff0399583afd1f3)) epoch earlier ≡ refused 14
unfolding computed
precess_eq_coords_fk5_meets_fourteen = refl

pub precess_eq_coords_fk5_published_meets_fourteen : precess_eq_coords_FK5_rule Published (rad (bits 0xbf752d92049a74c8)) (rad (bits 0x3ff90f943d214bc0)) epoch (bits 0x4142d52b18000000) ≡ refused 14
unfolding computed
precess_eq_coords_fk5_published_meets_fourteen = refl
