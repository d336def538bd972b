-- `parallax_ecl::ecliptic_along` meets its contract.
use Rattle.std.proofs.Common.{rules}
use Rattle.quantity.specs.rules.Answer.{then}
use Rattle.parallax_ecl.specs.rules.Ecliptic.{ecliptic_along}
use Rattle.parallax_ecl.proofs.ecliptic_along.Goals as goal

pub returns-in_err-lat : goal.returns-in_err-lat
unfolding ecliptic_along then
returns-in_err-lat c = search rules

pub returns : goal.returns
unfolding ecliptic_along then
returns c = search rules
