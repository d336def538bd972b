-- `parallax_ecl::long_top` meets its contract.
use Rattle.parallax_ecl.specs.rules.Ecliptic.{long_top}
use Rattle.parallax_ecl.proofs.long_top.Goals as goal

pub returns : goal.returns
unfolding long_top
returns c =
    rw (c.sine-3.ensures, c.cosine-2.ensures, c.sine-2.ensures, c.cosine.ensures, c.sine.ensures) at c.arctangent_in.ensures
