-- `parallax_ecl::semidiameter_in` meets its contract.
use Rattle.parallax_ecl.specs.rules.Ecliptic.{semidiameter_in}
use Rattle.parallax_ecl.proofs.semidiameter_in.Goals as goal

pub returns : goal.returns
unfolding semidiameter_in
returns c =
    rw (c.sine.ensures, c.fold-2.ensures, c.cosine.ensures, c.fold.ensures) at c.arcsine_in.ensures
