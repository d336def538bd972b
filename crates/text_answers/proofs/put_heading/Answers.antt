-- `text_answers::put_heading` meets its contract.
use Rattle.std.proofs.Common.{rules}
use Rattle.lent.specs.laws.Writing.{same, nothing}
use Rattle.text_answers.proofs.put_heading.Goals as goal

pub returns-in-Lines : goal.returns-in-Lines
returns-in-Lines c = same (search rules) (nothing _ _ _ c.within.ensures)

pub returns-in-Table : goal.returns-in-Table
returns-in-Table c = same (rw c.in-Table.is) c.put.ensures
