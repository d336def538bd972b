-- `text_time::put_why` meets its contract.
use Rattle.std.proofs.Common.{rules}
use Rattle.lent.specs.laws.Writing.{same}
use Rattle.text_time.specs.rules.Line.{why_text}
use Rattle.text_time.proofs.put_why.Goals as goal

pub returns-in-15 : goal.returns-in-15
unfolding why_text
returns-in-15 c = same (rw c.in-15.is) c.put.ensures

pub returns-in-16 : goal.returns-in-16
unfolding why_text
returns-in-16 c = same (rw c.in-16.is) c.put-in-16.ensures

pub returns-in_default : goal.returns-in_default
unfolding why_text
returns-in_default c = same (search rules) c.put_refused.ensures
