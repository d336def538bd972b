-- `text_date::with_number` meets its contract.
use borrow.Author.Tests.{eq-eqb, ne_eqb, lt-ltb, le-ltb}
use Rattle.text_date.specs.rules.Time.{with_number}
use Rattle.text_date.proofs.with_number.Goals as goal

pub returns-then-n-lt2299161 : goal.returns-then-n-lt2299161
unfolding with_number
returns-then-n-lt2299161 c = simp (lt-ltb _ _ c.if-n-lt2299161.true)

pub returns-then-n-gt3182045 : goal.returns-then-n-gt3182045
unfolding with_number
returns-then-n-gt3182045 c = simp (le-ltb _ _ c.if-n-lt2299161.false, lt-ltb _ _ c.if-n-gt3182045.true)

pub returns-then-text-eq10 : goal.returns-then-text-eq10
unfolding with_number
returns-then-text-eq10 c = simp (le-ltb _ _ c.if-n-lt2299161.false, le-ltb _ _ c.if-n-gt3182045.false, eq-eqb _ _ c.if-text-eq10.true)

pub returns : goal.returns
unfolding with_number
returns c =
    rw (le-ltb _ _ c.if-n-lt2299161.false, le-ltb _ _ c.if-n-gt3182045.false, ne_eqb _ _ c.if-text-eq10.false) c.with_time.ensures
