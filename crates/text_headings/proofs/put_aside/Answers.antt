-- `text_headings::put_aside` meets its contract.
use Rattle.lent.specs.laws.Writing.{same}
use Rattle.text_headings.specs.rules.Sight.{aside_text}
use Rattle.text_headings.proofs.put_aside.Goals as goal

pub returns-then-aside : goal.returns-then-aside
unfolding aside_text
returns-then-aside c = same (rw c.if-aside.true) c.put.ensures

pub returns : goal.returns
unfolding aside_text
returns c = same (rw c.if-aside.false) c.put_byte.ensures
