-- `text_date::is_fraction` meets its contract.
use borrow.Author.Tests.{eq-eqb, ne_eqb, lt-ltb, le-ltb, le-leb, lt-leb}
use Rattle.text_date.specs.rules.Time.{is_fraction}
use Rattle.text_date.proofs.is_fraction.Goals as goal

pub returns-then-n-eq20 : goal.returns-then-n-eq20
unfolding is_fraction
returns-then-n-eq20 c = simp (eq-eqb _ _ c.if-n-eq20.true)

pub returns-then-n-lt22 : goal.returns-then-n-lt22
unfolding is_fraction
returns-then-n-lt22 c = simp (ne_eqb _ _ c.if-n-eq20.false, lt-ltb _ _ c.if-n-lt22.true)

pub returns-then-n-gt24 : goal.returns-then-n-gt24
unfolding is_fraction
returns-then-n-gt24 c = simp (ne_eqb _ _ c.if-n-eq20.false, le-ltb _ _ c.if-n-lt22.false, lt-leb _ _ c.if-n-gt24.true)

pub returns : goal.returns
unfolding is_fraction
returns c =
    simp (ne_eqb _ _ c.if-n-eq20.false, le-ltb _ _ c.if-n-lt22.false, le-leb _ _ c.if-n-gt24.false)
