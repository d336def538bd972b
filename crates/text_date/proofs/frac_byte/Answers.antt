-- `text_date::frac_byte` meets its contract.
use borrow.Author.Tests.{lt-ltb, le-ltb}
use Rattle.text_date.specs.rules.Time.{frac_byte}
use Rattle.text_date.proofs.frac_byte.Goals as goal

pub returns-then-at-text : goal.returns-then-at-text
unfolding frac_byte
returns-then-at-text c = simp (lt-ltb _ _ c.if-at-text.true)

pub returns : goal.returns
unfolding frac_byte
returns c = simp (le-ltb _ _ c.if-at-text.false)
