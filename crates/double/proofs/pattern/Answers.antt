-- `double::pattern` meets its contract.
use Rattle.double.specs.rules.Pattern.{pattern_of}
use Rattle.double.proofs.Tests.{itself}
use Rattle.double.proofs.pattern.Goals as goal

pub float_to_bits-result : goal.float_to_bits-result
float_to_bits-result c = itself c.args.x c.if-x.true

pub returns-then-x : goal.returns-then-x
unfolding pattern_of
returns-then-x c = simp c.if-x.true

pub returns : goal.returns
unfolding pattern_of
returns c = simp c.if-x.false
