-- `parallax::topocent_at` meets its contract.
use Rattle.std.proofs.Common.{rules}
use Rattle.quantity.specs.rules.Answer.{then}
use Rattle.parallax.specs.rules.Equatorial.{topocent_at}
use Rattle.parallax.proofs.topocent_at.Goals as goal

pub returns-in_err-change : goal.returns-in_err-change
unfolding topocent_at then
returns-in_err-change c = search rules

pub returns : goal.returns
unfolding topocent_at then
returns c = search rules
