-- `aberr_args::term` meets its contract.
use mathlib.Core.Path.{sym, subst}
use lib.Dec.{T}
use Rattle.aberr_args.specs.laws.Written.{term_written}
use Rattle.aberr_args.proofs.term.Goals as goal

pub returns : goal.returns
returns c =
    let a = c.args in
    rw c.plus.ensures (term_written a.k a.d a.t a.w (subst T (sym c.well_formed.1.1.1.0.1) tt))
