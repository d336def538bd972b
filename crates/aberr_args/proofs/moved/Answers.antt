-- `aberr_args::moved` meets its contract.
use Rattle.aberr_args.specs.rules.Row.{moved}
use Rattle.aberr_args.proofs.moved.Goals as goal

pub returns : goal.returns
unfolding moved
returns c = rw (c.with_term.ensures, c.term.ensures)
