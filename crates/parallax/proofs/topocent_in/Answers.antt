-- `parallax::topocent_in` meets its contract.
use Rattle.std.proofs.Common.{rules}
use Rattle.quantity.specs.rules.Answer.{then}
use Rattle.parallax.specs.rules.Equatorial.{topocent_in}
use Rattle.parallax.proofs.topocent_in.Goals as goal

pub returns-in_err-s : goal.returns-in_err-s
unfolding topocent_in then
returns-in_err-s c = search rules

pub returns : goal.returns
unfolding topocent_in then
returns c = search rules
