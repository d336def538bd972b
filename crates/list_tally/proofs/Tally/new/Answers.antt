-- `list_tally::Tally::new` meets its contract.
use mathlib.Core.Path.{refl}
use Rattle.list_tally.specs.rules.Tally.{tally_of}
use Rattle.list_tally.proofs.Tally.new.Goals as goal

pub returns : goal.returns
unfolding tally_of
returns c = refl
