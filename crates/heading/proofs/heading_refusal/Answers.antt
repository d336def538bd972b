-- `heading::heading_refusal` meets its contract.
use Rattle.std.proofs.Common.{rules}
use Rattle.heading.specs.rules.Heading.{heading_refusal}
use Rattle.heading.proofs.heading_refusal.Goals as goal

pub returns : goal.returns
unfolding heading_refusal
returns c = search rules
