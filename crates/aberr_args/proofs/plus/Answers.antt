-- `aberr_args::plus` meets its contract.
use mathlib.Core.Path.{sym, subst}
use lib.Dec.{T}
use Rattle.aberr_args.specs.rules.Row.{plus}
use Rattle.aberr_args.specs.laws.Written.{plus_written}
use Rattle.aberr_args.proofs.plus.Goals as goal

pub returns-then-k : goal.returns-then-k
unfolding plus
returns-then-k c = rw c.if-k.true

pub returns-else-k : goal.returns-else-k
returns-else-k c =
    plus_written c.args.p c.args.k c.args.w (subst T (sym c.well_formed.1.1.0.1) tt) c.if-k.false
