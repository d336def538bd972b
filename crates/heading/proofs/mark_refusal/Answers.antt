-- `heading::mark_refusal` meets its contract.
use Rattle.std.proofs.Common.{rules}
use Rattle.heading.specs.rules.Mark.{mark_refusal}
use Rattle.heading.proofs.mark_refusal.Goals as goal

pub returns : goal.returns
unfolding mark_refusal
returns c = search rules
