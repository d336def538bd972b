-- `list_edit::put_kept` meets its contract.
use mathlib.Core.Path.{sym}
use Rattle.lent.specs.laws.Writing.{same, nothing}
use Rattle.list_edit.specs.laws.Passes.{one_stays, one_goes}
use Rattle.list_edit.proofs.put_kept.Goals as goal

pub returns-then-star-eq0 : goal.returns-then-star-eq0
returns-then-star-eq0 c = same (sym (one_goes _ c.if-star-eq0.true)) (nothing _ _ _ c.within.ensures)

pub returns : goal.returns
returns c = same (sym (one_stays _ c.if-star-eq0.false)) c.write_star.ensures
