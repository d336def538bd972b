-- `plan::put_either` meets its contract: a text ends in its slice.
use Rattle.lent.specs.laws.Writing.{inside}
use Rattle.plan.proofs.put_either.Goals as goal

pub returns-in-Some : goal.returns-in-Some
returns-in-Some c = inside c.put_report.ensures

pub returns-in-None : goal.returns-in-None
returns-in-None c = inside c.put_plan.ensures
