use lib.ListN.{take}
use Rattle.lent.specs.rules.Writing.{Wrote}
use Rattle.list.specs.rules.Stars.{stars, kept}
use Rattle.text_sheet.specs.rules.Sheet.{lines}
use Rattle.text_sheet.proofs.put_lines.Given as goal

abbrev pub invariant-loop-i : goal.invariant-loop-i
invariant-loop-i l = Wrote l.initial.out l.at (lines l.rates (kept (take l.i (stars l.bytes)))) l.out l.offset
