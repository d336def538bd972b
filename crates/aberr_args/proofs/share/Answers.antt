-- `aberr_args::share` meets its contract.
use Rattle.aberr_args.specs.rules.Row.{grouped, moved, spread, share_of}
use Rattle.aberr_args.proofs.share.Goals as goal

pub returns-then-e : goal.returns-then-e
unfolding share_of grouped
returns-then-e c = rw (c.if-e.true, c.grouped.ensures)

pub returns-else-e : goal.returns-else-e
unfolding share_of moved spread
returns-else-e c = rw c.if-e.false c.spread.ensures
