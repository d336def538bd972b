-- `text_ceiling::size_at` meets its contract.
use Rattle.std.proofs.Common.{rules}
use Rattle.text_ceiling.specs.rules.Text.{size_at}
use Rattle.text_ceiling.proofs.size_at.Goals as goal

pub returns : goal.returns
unfolding size_at
returns c = search rules
