-- `precess_ecl::ecl_precessed_from` meets its contract.
use Rattle.precess_ecl.specs.rules.Ecliptic.{ecl_precessed_from}
use Rattle.precess_ecl.proofs.ecl_precessed_from.Goals as goal

pub returns : goal.returns
unfolding ecl_precessed_from
returns c =
    rw (c.arcsine_in.ensures, c.taken_from.ensures, c.arctangent_in.ensures, c.cosine-cb.ensures, c.sine-sb.ensures, c.cosine-cp.ensures, c.sine-sp.ensures) at c.both.ensures
