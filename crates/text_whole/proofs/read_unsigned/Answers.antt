-- `text_whole::read_unsigned` meets its contract.
use mathlib.Core.Path.{ap, ◌∙◌}
use Rattle.text_whole.specs.rules.Unsigned.{unsigned_from, unsigned_rule}
use Rattle.text_whole.proofs.read_unsigned.Goals as goal

pub returns : goal.returns
unfolding unsigned_rule
returns c = c.unsigned_from.ensures ∙ ap unsigned_from c.scan_of.ensures
