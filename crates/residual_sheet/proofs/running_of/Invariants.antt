use mathlib.Core.Path.{◌≡◌}
use Rattle.lent.specs.rules.Rows.{upto}
use Rattle.residual_sheet.specs.rules.Entry.{entry_at}
use Rattle.residual_sheet.specs.rules.Running.{running_of}
use Rattle.residual_sheet.proofs.running_of.Given as goal

abbrev pub invariant-loop-i : goal.invariant-loop-i
invariant-loop-i l = l.r ≡ running_of (upto l.i (entry_at l.fn.across l.status l.computed l.measured))
