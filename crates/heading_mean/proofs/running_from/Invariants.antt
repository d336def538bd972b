use mathlib.Core.Path.{◌≡◌}
use Rattle.lent.specs.rules.Rows.{upto}
use Rattle.residual_sheet.specs.rules.Running.{running_of}
use Rattle.heading_mean.specs.rules.Mean.{entry_from}
use Rattle.heading_mean.proofs.running_from.Given as goal

abbrev pub invariant-loop-i : goal.invariant-loop-i
invariant-loop-i l = l.r ≡ running_of (upto l.i (entry_from l.fn.reference l.headings))
