-- `text_headings::put_way` meets its contract.
use Rattle.lent.specs.laws.Writing.{same}
use Rattle.text_headings.specs.rules.Sight.{way_text}
use Rattle.text_headings.proofs.put_way.Goals as goal

pub returns-then-minus : goal.returns-then-minus
unfolding way_text
returns-then-minus c = same (rw c.if-minus.true) c.put.ensures

pub returns : goal.returns
unfolding way_text
returns c = same (rw c.if-minus.false) c.put-2.ensures
