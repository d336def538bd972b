-- What a theorem opens that works rules out at stated inputs: the root, over answers and doubles.
use Rattle.std.specs.Prelude.{ℕ}
use Rattle.quantity.specs.notions.Computed as quantity
use Rattle.double.specs.rules.Count.{count}
use Rattle.root.specs.rules.Whole.{whole_root}
use Rattle.root.specs.rules.Root.{root_pattern, root_of, root_rule}

-- a name for the line below it, which is what counts
unfoldable pub computed : ℕ
unfolding quantity.computed count whole_root root_pattern root_of root_rule
computed = 0
