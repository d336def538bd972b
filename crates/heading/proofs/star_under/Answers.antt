-- `heading::star_under` meets its contract.
use Rattle.std.proofs.Common.{rules}
use Rattle.batch.specs.rules.Star.{star_under_by}
use Rattle.star_store.specs.rules.Star.{star_refusal}
use Rattle.heading.proofs.star_under.Goals as goal

pub returns-in_err-star_refusal : goal.returns-in_err-star_refusal
unfolding star_under_by star_refusal
returns-in_err-star_refusal c = search rules

pub returns : goal.returns
unfolding star_under_by star_refusal
returns c = search rules
