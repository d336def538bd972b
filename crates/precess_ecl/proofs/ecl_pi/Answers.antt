-- `precess_ecl::ecl_pi` meets its contract.
use mathlib.Core.Path.{refl}
use Rattle.precess_ecl.specs.rules.Ecliptic.{ecl_pi}
use Rattle.precess_ecl.proofs.ecl_pi.Goals as goal

pub returns : goal.returns
unfolding ecl_pi
returns c = refl
