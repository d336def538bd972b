-- `elementary_arc::arctangent_of` meets its contract.
use mathlib.Core.Path.{ap}
use Rattle.quantity.specs.rules.Angle.{rad}
use Rattle.elementary_arc.specs.rules.Arctangent.{arctangent_of}
use Rattle.elementary_arc.proofs.arctangent_of.Goals as goal

pub returns : goal.returns
unfolding arctangent_of
returns c =
    ap rad (rw (c.base.ensures, c.size-2.ensures, c.size.ensures) at c.arc_by_signs.ensures)
