-- `aberr_args::spread` meets its contract.
use Rattle.aberr_args.specs.rules.Row.{moved, spread}
use Rattle.aberr_args.proofs.spread.Goals as goal

pub returns-then-e : goal.returns-then-e
unfolding spread moved
returns-then-e c = rw c.if-e.true c.moved.ensures

pub returns-then-c : goal.returns-then-c
unfolding spread moved
returns-then-c c = rw (c.if-e.false, c.if-s.true, c.if-c.true)

pub returns-then-s : goal.returns-then-s
unfolding spread moved
returns-then-s c = rw (c.if-e.false, c.if-s.true, c.if-c.false, c.times.ensures)

pub returns : goal.returns
unfolding spread moved
returns c = rw (c.if-e.false, c.if-s.false, c.plus.ensures, c.times-2.ensures)
