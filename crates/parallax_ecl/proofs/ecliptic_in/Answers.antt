-- `parallax_ecl::ecliptic_in` meets its contract.
use Rattle.std.proofs.Common.{rules}
use Rattle.quantity.specs.rules.Answer.{then}
use Rattle.parallax_ecl.specs.rules.Ecliptic.{ecliptic_in}
use Rattle.parallax_ecl.proofs.ecliptic_in.Goals as goal

pub returns-in_err-s : goal.returns-in_err-s
unfolding ecliptic_in then
returns-in_err-s c = search rules

pub returns : goal.returns
unfolding ecliptic_in then
returns c = search rules
