-- `precess_ecl::ecl_nu` meets its contract.
use mathlib.Core.Path.{refl}
use Rattle.precess_ecl.specs.rules.Ecliptic.{ecl_nu}
use Rattle.precess_ecl.proofs.ecl_nu.Goals as goal

pub returns : goal.returns
unfolding ecl_nu
returns c = refl
