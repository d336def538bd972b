use Rattle.lent.specs.rules.Writing.{Wrote}
use Rattle.list_edit.specs.notions.Edit.{kept_upto}
use Rattle.list_edit.proofs.bring_forward.Given as goal

abbrev pub invariant-loop-i : goal.invariant-loop-i
invariant-loop-i l = Wrote l.initial.bytes 0 (kept_upto l.initial.bytes l.i) l.bytes l.at
