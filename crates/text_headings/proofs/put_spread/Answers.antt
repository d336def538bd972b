-- `text_headings::put_spread` meets its contract.
use borrow.Author.Tests.{lt-ltb, le-ltb}
use Rattle.lent.specs.laws.Writing.{same}
use Rattle.text_headings.specs.rules.Mean.{spread_text}
use Rattle.text_headings.proofs.put_spread.Goals as goal

pub returns-then-count-lt2 : goal.returns-then-count-lt2
unfolding spread_text
returns-then-count-lt2 c = same (simp (lt-ltb _ _ c.if-count-lt2.true)) c.put.ensures

pub returns : goal.returns
unfolding spread_text
returns c = same (simp (le-ltb _ _ c.if-count-lt2.false)) c.put_scatter.ensures
