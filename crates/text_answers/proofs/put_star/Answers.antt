-- `text_answers::put_star` meets its contract.
use Rattle.lent.specs.laws.Writing.{same}
use Rattle.text_answers.proofs.put_star.Goals as goal

pub returns-in-Lines : goal.returns-in-Lines
returns-in-Lines c = same (rw c.in-Lines.is) c.put_line.ensures

pub returns-in-Table : goal.returns-in-Table
returns-in-Table c = same (rw c.in-Table.is) c.put_row.ensures

pub returns-in-Plan : goal.returns-in-Plan
returns-in-Plan c =
    same (rw (c.in-Plan.is, c.planned-plan.ensures)) (rw c.again.ensures at c.put_line-in-Plan.ensures)

pub returns-in-PlanTable : goal.returns-in-PlanTable
returns-in-PlanTable c =
    same (rw (c.in-PlanTable.is, c.planned-plan-in-PlanTable.ensures)) (rw c.again-in-PlanTable.ensures at c.put_plan_row.ensures)
