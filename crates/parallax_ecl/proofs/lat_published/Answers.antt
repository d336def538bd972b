-- `parallax_ecl::lat_published` meets its contract.
use Rattle.parallax_ecl.specs.rules.Ecliptic.{lat_published}
use Rattle.parallax_ecl.proofs.lat_published.Goals as goal

pub returns-then-cos_long : goal.returns-then-cos_long
unfolding lat_published
returns-then-cos_long c = rw c.if-cos_long.true

pub returns : goal.returns
unfolding lat_published
returns c = rw c.if-cos_long.false c.arctangent_in.ensures
