-- `double::is_finite` meets its contract.
use Rattle.double.proofs.Tests.{size_below_infinity}
use Rattle.double.proofs.is_finite.Goals as goal

pub returns : goal.returns
returns c = rw c.size.ensures (size_below_infinity c.args.x)
