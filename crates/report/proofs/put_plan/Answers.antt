-- `report::put_plan` meets its contract.
use Rattle.lent.specs.laws.Writing.{same}
use Rattle.report.specs.rules.Report.{plan_of}
use Rattle.report.proofs.put_plan.Goals as goal

pub returns : goal.returns
unfolding plan_of
returns c =
    same (rw (c.plan_style-style.ensures, c.observer_at-o.ensures, c.apparent_on.ensures)) c.put_report.ensures
