-- `aberr_args::with_term` meets its contract.
use mathlib.Core.Path.{sym, subst}
use lib.Dec.{T}
use Rattle.aberr_args.specs.rules.Row.{with_term}
use Rattle.aberr_args.specs.laws.Written.{with_term_written}
use Rattle.aberr_args.proofs.with_term.Goals as goal

pub returns-then-k : goal.returns-then-k
unfolding with_term
returns-then-k c = rw c.if-k.true

pub returns-else-k : goal.returns-else-k
returns-else-k c =
    let a = c.args in
    rw c.plus.ensures
    (with_term_written a.p a.k a.d a.t a.w (subst T (sym c.well_formed.1.1.1.1.0.1) tt) c.if-k.false)
