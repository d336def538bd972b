-- `parallax_ecl::lat_of_crate` meets its contract.
use Rattle.parallax_ecl.specs.rules.Ecliptic.{lat_of_crate}
use Rattle.parallax_ecl.proofs.lat_of_crate.Goals as goal

pub returns : goal.returns
unfolding lat_of_crate
returns c = c.arctangent_in.ensures
