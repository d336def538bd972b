-- `double::of_pattern` meets its contract.
use Rattle.std.proofs.Common.{◌≡◌, sym, refl, ◌∙◌}
use lib.Ieee.{nan}
use Rattle.double.specs.rules.Operations.{zero, ◌⊘◌}
use Rattle.double.specs.notions.Computed.{computed}
use Rattle.double.specs.laws.ReadBack.{nan_pattern, no_nan_pattern}
use Rattle.double.proofs.of_pattern.Goals as goal

no_quotient : zero ⊘ zero ≡ nan
unfolding computed
no_quotient = refl

pub returns-then-b-gt9218868437227405312 : goal.returns-then-b-gt9218868437227405312
returns-then-b-gt9218868437227405312 c = no_quotient ∙ sym (nan_pattern c.args.b c.if-b-gt9218868437227405312.true)

pub float_from_bits-result : goal.float_from_bits-result
float_from_bits-result c = no_nan_pattern c.args.b c.if-b-gt9218868437227405312.false
