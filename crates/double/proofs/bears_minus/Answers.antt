-- `double::bears_minus` meets its contract; that the format holds x is what owning an `f64` tells.
use Rattle.std.proofs.Common.{T, sym, subst}
use lib.Ieee.{binary64}
use Rattle.double.specs.laws.SignBit.{sign_bit}
use Rattle.double.proofs.Tests.{itself, not_itself}
use Rattle.double.proofs.bears_minus.Goals as goal

pub float_to_bits-result : goal.float_to_bits-result
float_to_bits-result c = itself c.args.x c.if-x.true

pub returns-then-x : goal.returns-then-x
returns-then-x c =
    let x = c.args.x in sign_bit binary64 x (subst T (sym c.well_formed.0.1) tt) (itself x c.if-x.true)

pub returns-else-x : goal.returns-else-x
returns-else-x c = not_itself c.args.x c.if-x.false
