-- `parallax_ecl::lat_top` meets its contract.
use Rattle.parallax_ecl.specs.rules.Ecliptic.{lat_top}
use Rattle.parallax_ecl.proofs.lat_top.Goals as goal

pub returns-in-Crate : goal.returns-in-Crate
unfolding lat_top
returns-in-Crate c = rw c.in-Crate.is c.lat_of_crate.ensures

pub returns-in-Published : goal.returns-in-Published
unfolding lat_top
returns-in-Published c = rw c.in-Published.is c.lat_published.ensures
