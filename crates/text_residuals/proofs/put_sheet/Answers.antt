-- `text_residuals::put_sheet` meets its contract.
use Rattle.lent.specs.laws.Writing.{after}
use Rattle.text_residuals.specs.rules.Sheet.{sheet_text}
use Rattle.text_residuals.proofs.put_sheet.Goals as goal

pub returns : goal.returns
unfolding sheet_text
returns c =
    after c.put-a.ensures (after c.put_coordinate-b.ensures (after c.put-c.ensures c.put_coordinate.ensures))
