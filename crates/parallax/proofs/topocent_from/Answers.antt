-- `parallax::topocent_from` meets its contract.
use Rattle.std.proofs.Common.{rules}
use Rattle.quantity.specs.rules.Answer.{then}
use Rattle.parallax.specs.rules.Equatorial.{topocent_from}
use Rattle.parallax.proofs.topocent_from.Goals as goal

pub returns-in_err-dec : goal.returns-in_err-dec
unfolding topocent_from then
returns-in_err-dec c = search rules

pub returns : goal.returns
unfolding topocent_from then
returns c = search rules
