-- `text_sheet::put_lines` meets its contract: after i passes the lines of those that are kept of the first i stars are written.
use mathlib.Core.Path.{ap}
use native.Mathlib.Omega.{arith}
use Rattle.lent.specs.laws.Writing.{after, same, nothing}
use Rattle.text_sheet.specs.rules.Sheet.{lines}
use Rattle.text_sheet.specs.laws.Sheet.{kept_all, lines_more}
use Rattle.text_sheet.proofs.put_lines.Goals as goal

pub loop-i-init : goal.loop-i-init
loop-i-init c = nothing _ _ _ c.within-offset.ensures

pub loop-i-preserved : goal.loop-i-preserved
loop-i-preserved c =
    same (lines_more _ _ (omega arith) _ c.nth.ensures _) (after c.loop-i.invariant c.put_kept-offset.ensures)

pub returns : goal.returns
returns c = same (ap (lines _) (kept_all _ c.loop-i.i (omega arith))) c.loop-i.invariant
