-- `aberr_args::grouped` meets its contract.
use Rattle.aberr_args.specs.rules.Row.{grouped}
use Rattle.aberr_args.proofs.grouped.Goals as goal

pub returns-then-s-c : goal.returns-then-s-c
unfolding grouped
returns-then-s-c c = rw c.if-s-c.true

pub returns-then-s-c-2 : goal.returns-then-s-c-2
unfolding grouped
returns-then-s-c-2 c = rw (c.if-s-c.false, c.if-s-c-2.true)

pub returns : goal.returns
unfolding grouped
returns c = rw (c.if-s-c.false, c.if-s-c-2.false)
