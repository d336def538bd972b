-- `heading::sky_in` meets its contract.
use Rattle.std.proofs.Common.{rules}
use Rattle.quantity.specs.rules.Answer.{then}
use Rattle.heading.specs.rules.Sky.{sky_in}
use Rattle.heading.proofs.sky_in.Goals as goal

pub returns-in_err-az : goal.returns-in_err-az
unfolding sky_in then
returns-in_err-az c = search rules

pub returns : goal.returns
unfolding sky_in then
returns c = search rules
