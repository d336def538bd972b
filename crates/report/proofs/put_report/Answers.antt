-- `report::put_report` meets its contract.
use mathlib.Core.Path.{refl}
use Rattle.lent.specs.laws.Writing.{same}
use Rattle.report.specs.laws.Report.{report_is}
use Rattle.report.proofs.put_report.Goals as goal

pub returns : goal.returns
returns c = same (report_is _ _ c.batch-done.ensures refl refl refl) c.put_answers.ensures
