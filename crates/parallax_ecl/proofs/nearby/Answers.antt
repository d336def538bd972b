-- `parallax_ecl::nearby` meets its contract.
use Rattle.parallax_ecl.specs.rules.Ecliptic.{nearby}
use Rattle.parallax_ecl.proofs.nearby.Goals as goal

pub returns : goal.returns
unfolding nearby
returns c = rw (c.cosine-3.ensures, c.cosine-2.ensures, c.cosine.ensures)
