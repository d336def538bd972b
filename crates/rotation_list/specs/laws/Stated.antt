-- Stored records at which 7 and 14 are met.
use Rattle.std.specs.Prelude.{◌≡◌, refl, pos}
use Rattle.double.specs.rules.Operations.{bits}
use Rattle.quantity.specs.rules.Answer.{refused}
use Rattle.edition.specs.declared.Edition.TheVariants.{Crate}
use Rattle.list.specs.rules.Record.{in_range}
use Rattle.star_store.specs.rules.Star.{star_refusal}
use Rattle.rotation.specs.notions.Computed.{computed}
use Rattle.rotation_list.specs.rules.Rotate.{rotated_star, rotated_on}

-- from 2002827.5 to 2914752.5, a star that comes within two milliarcseconds of the pole
pub star_meets_seven : rotated_on Crate (bits 0x413e8f8b80000000) (bits 0x41463ce040000000) (record { number = 1; asc = 1238378275; dec = pos 275135987; asc_rate = pos 0; dec_rate = pos 0 }) ≡ refused 7
unfolding computed rotated_star star_refusal in_range
star_meets_seven = refl

-- from 2040684.086952392 to 2392525.659039924, a star that comes to lie in the pole itself
pub star_meets_fourteen : rotated_on Crate (bits 0x413f236c16428310) (bits 0x414240e6d45b6b94) (record { number = 1; asc = 1273891477; dec = pos 304862162; asc_rate = pos 0; dec_rate = pos 0 }) ≡ refused 14
unfolding computed rotated_star star_refusal in_range
star_meets_fourteen = refl
