-- `text_headings::heading_at` meets its contract.
use mathlib.Core.Path.{ap}
use Rattle.quantity.specs.rules.Angle.{deg}
use Rattle.text_headings.proofs.heading_at.Goals as goal

pub returns : goal.returns
returns c = ap deg (rw c.number_at.ensures at c.of_pattern.ensures)
