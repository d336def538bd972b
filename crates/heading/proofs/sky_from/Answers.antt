-- `heading::sky_from` meets its contract.
use Rattle.std.proofs.Common.{rules}
use Rattle.quantity.specs.rules.Answer.{then}
use Rattle.heading.specs.rules.Sky.{sky_from}
use Rattle.heading.proofs.sky_from.Goals as goal

pub returns-in_err-alt : goal.returns-in_err-alt
unfolding sky_from then
returns-in_err-alt c = search rules

pub returns : goal.returns
unfolding sky_from then
returns c = search rules
