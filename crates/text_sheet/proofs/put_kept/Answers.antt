-- `text_sheet::put_kept` meets its contract.
use mathlib.Core.Path.{sym, ap, ◌∙◌}
use mathlib.Core.List.{append-nil}
use Rattle.lent.specs.laws.Writing.{same, nothing}
use Rattle.text_sheet.specs.rules.Sheet.{line, lines}
use Rattle.text_sheet.specs.laws.Sheet.{one_stays, one_goes}
use Rattle.text_sheet.proofs.put_kept.Goals as goal

pub returns-then-star-eq0 : goal.returns-then-star-eq0
returns-then-star-eq0 c = same (sym (ap (lines _) (one_goes _ c.if-star-eq0.true))) (nothing _ _ _ c.within.ensures)

pub returns : goal.returns
returns c =
    same (sym (ap (lines _) (one_stays _ c.if-star-eq0.false) ∙ append-nil (line _ _)))
    c.put_line.ensures
