-- `parallax_ecl::upward` meets its contract.
use Rattle.parallax_ecl.specs.rules.Ecliptic.{upward}
use Rattle.parallax_ecl.proofs.upward.Goals as goal

pub returns : goal.returns
unfolding upward
returns c =
    rw (c.sine-3.ensures, c.sine-2.ensures, c.cosine.ensures, c.sine.ensures)
