-- `heading_mean::headings_refusal` meets its contract.
use Rattle.std.proofs.Common.{rules}
use Rattle.heading_mean.specs.rules.Mean.{headings_refusal}
use Rattle.heading_mean.proofs.headings_refusal.Goals as goal

pub returns-in_err-number_refusal : goal.returns-in_err-number_refusal
unfolding headings_refusal
returns-in_err-number_refusal c = search rules

pub returns : goal.returns
unfolding headings_refusal
returns c = search rules
