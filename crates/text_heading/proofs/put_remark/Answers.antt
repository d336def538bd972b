-- `text_heading::put_remark` meets its contract.
use Rattle.lent.specs.laws.Writing.{nothing, same}
use Rattle.text_heading.specs.rules.Altitude.{remark_text}
use Rattle.text_heading.proofs.put_remark.Goals as goal

pub returns-then-alt : goal.returns-then-alt
unfolding remark_text
returns-then-alt c = same (rw c.if-alt.true) c.put.ensures

pub returns-then-alt-2 : goal.returns-then-alt-2
unfolding remark_text
returns-then-alt-2 c =
    same (rw (c.if-alt.false, c.if-alt-2.true)) c.put-then-alt-2.ensures

pub returns : goal.returns
unfolding remark_text
returns c = same (rw (c.if-alt.false, c.if-alt-2.false)) (nothing _ _ _ c.within.ensures)
