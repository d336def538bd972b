-- `aberr_args::arguments_at` meets its contract.
use mathlib.Core.Path.{refl}
use Rattle.aberr_args.specs.rules.Arguments.{arguments_of}
use Rattle.aberr_args.proofs.arguments_at.Goals as goal

pub returns : goal.returns
unfolding arguments_of
returns c = refl
