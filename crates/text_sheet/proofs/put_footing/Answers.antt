-- `text_sheet::put_footing` meets its contract.
use mathlib.Core.List.{append_assoc}
use Rattle.lent.specs.laws.Writing.{after, same}
use Rattle.text_sheet.specs.rules.Sheet.{footing}
use Rattle.text_sheet.proofs.put_footing.Goals as goal

pub returns : goal.returns
unfolding footing
returns c =
    same (simp append_assoc)
    (after (after (after (after c.put-a.ensures c.put_decimal-b.ensures) c.put-c.ensures) c.put_decimal-d.ensures) c.put_byte.ensures)
