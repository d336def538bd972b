-- `nutation_args::in_turn` meets its contract.
use mathlib.Core.Path.{ap, ◌∙◌}
use Rattle.helpers.specs.rules.Angle.{radians_of}
use Rattle.nutation_args.specs.rules.Arguments.{in_turn}
use Rattle.nutation_args.proofs.in_turn.Goals as goal

pub returns : goal.returns
unfolding in_turn
returns c = c.radians.ensures ∙ ap radians_of c.within_360.ensures
