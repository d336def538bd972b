use Rattle.report_residuals.specs.rules.Came.{lent_came}
use Rattle.report_residuals.specs.notions.Matched.{Upto}
use Rattle.report_residuals.proofs.match_sights.Given as goal

abbrev pub invariant-loop-i : goal.invariant-loop-i
invariant-loop-i l = Upto (lent_came l.bytes l.status l.asc l.dec) l.star l.initial.sight_status l.initial.sight_asc l.initial.sight_dec l.i l.sight_status l.sight_asc l.sight_dec
