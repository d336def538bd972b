-- `text_heading::put_pad` meets its contract.
use borrow.Author.Tests.{lt-ltb, le-ltb}
use Rattle.lent.specs.laws.Writing.{nothing, same}
use Rattle.text_heading.specs.rules.Angle.{pad_text}
use Rattle.text_heading.proofs.put_pad.Goals as goal

pub returns-then-degrees-lt10 : goal.returns-then-degrees-lt10
unfolding pad_text
returns-then-degrees-lt10 c = same (simp (lt-ltb _ _ c.if-degrees-lt10.true)) c.put.ensures

pub returns-then-degrees-lt100 : goal.returns-then-degrees-lt100
unfolding pad_text
returns-then-degrees-lt100 c =
    same (simp (le-ltb _ _ c.if-degrees-lt10.false, lt-ltb _ _ c.if-degrees-lt100.true)) c.put_byte.ensures

pub returns : goal.returns
unfolding pad_text
returns c =
    same (simp (le-ltb _ _ c.if-degrees-lt10.false, le-ltb _ _ c.if-degrees-lt100.false)) (nothing _ _ _ c.within.ensures)
