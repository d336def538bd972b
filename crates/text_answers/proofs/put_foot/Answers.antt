-- `text_answers::put_foot` meets its contract.
use Rattle.std.proofs.Common.{rules}
use Rattle.lent.specs.laws.Writing.{same, nothing}
use Rattle.text_answers.proofs.put_foot.Goals as goal

pub returns-in-Table : goal.returns-in-Table
returns-in-Table c = same (search rules) (nothing _ _ _ c.within.ensures)
