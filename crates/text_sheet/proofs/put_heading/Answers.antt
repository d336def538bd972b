-- `text_sheet::put_heading` meets its contract.
use mathlib.Core.List.{append_assoc}
use Rattle.lent.specs.laws.Writing.{after, same}
use Rattle.text_sheet.specs.rules.Sheet.{heading}
use Rattle.text_sheet.proofs.put_heading.Goals as goal

pub returns : goal.returns
unfolding heading
returns c =
    same (simp append_assoc) (after (after c.put-a.ensures c.put_decimal-b.ensures) c.put_byte.ensures)
