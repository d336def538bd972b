-- `precess_ecl::ecl_rho` meets its contract.
use mathlib.Core.Path.{refl}
use Rattle.precess_ecl.specs.rules.Ecliptic.{ecl_rho}
use Rattle.precess_ecl.proofs.ecl_rho.Goals as goal

pub returns : goal.returns
unfolding ecl_rho
returns c = refl
