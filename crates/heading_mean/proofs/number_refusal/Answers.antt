-- `heading_mean::number_refusal` meets its contract.
use Rattle.std.proofs.Common.{rules}
use Rattle.heading_mean.specs.rules.Mean.{number_refusal}
use Rattle.heading_mean.proofs.number_refusal.Goals as goal

pub returns-then-n-gt-MOST_STARS : goal.returns-then-n-gt-MOST_STARS
unfolding number_refusal
returns-then-n-gt-MOST_STARS c = search rules

pub returns-else-n-gt-MOST_STARS : goal.returns-else-n-gt-MOST_STARS
unfolding number_refusal
returns-else-n-gt-MOST_STARS c = search rules
