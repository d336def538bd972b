-- `aberr_args::times` meets its contract.
use mathlib.Core.Path.{sym, subst}
use lib.Dec.{T}
use Rattle.aberr_args.specs.laws.Written.{times_written}
use Rattle.aberr_args.proofs.times.Goals as goal

pub returns : goal.returns
returns c = times_written c.args.k c.args.w (subst T (sym c.well_formed.1.0.1) tt)
