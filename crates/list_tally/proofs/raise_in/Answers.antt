-- `list_tally::raise_in` meets its contract: one store raises the count, or all stays as it is.
use mathlib.Core.Path.{ap}
use Rattle.list_tally.specs.declared.Tally.{Tally}
use Rattle.list_tally.specs.laws.Tally.{unknown_stays, full_stays, known_raises}
use Rattle.list_tally.proofs.raise_in.Goals as goal

pub returns-then-status-gt-HIGHEST_STATUS : goal.returns-then-status-gt-HIGHEST_STATUS
returns-then-status-gt-HIGHEST_STATUS c = ap (λ (t : Tally). t.counts) (unknown_stays (record { counts = c.args.counts.now }) _ c.if-status-gt-HIGHEST_STATUS.true)

pub returns-then-n-ge-FULLEST : goal.returns-then-n-ge-FULLEST
returns-then-n-ge-FULLEST c =
    ap (λ (t : Tally). t.counts) (full_stays (record { counts = c.args.counts.now }) _ c.if-status-gt-HIGHEST_STATUS.false c.if-n-ge-FULLEST.true)

pub returns : goal.returns
returns c =
    ap (λ (t : Tally). t.counts) (known_raises (record { counts = c.args.counts.now }) _ c.if-status-gt-HIGHEST_STATUS.false c.if-n-ge-FULLEST.false)
