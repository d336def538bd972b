-- `precess_ecl::ecl_precessed_in` meets its contract.
use Rattle.precess_ecl.specs.rules.Ecliptic.{ecl_precessed_in}
use Rattle.precess_ecl.proofs.ecl_precessed_in.Goals as goal

pub returns : goal.returns
unfolding ecl_precessed_in
returns c = rw (c.fold-2.ensures, c.fold.ensures) at c.ecl_precessed_from.ensures
