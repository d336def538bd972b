-- `heading::sky_under` meets its contract.
use Rattle.std.proofs.Common.{rules}
use Rattle.quantity.specs.rules.Answer.{then}
use Rattle.heading.specs.rules.Sky.{sky_under}
use Rattle.heading.proofs.sky_under.Goals as goal

pub returns-in_err-h : goal.returns-in_err-h
unfolding sky_under then
returns-in_err-h c = search rules

pub returns : goal.returns
unfolding sky_under then
returns c = search rules
