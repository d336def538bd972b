-- `chain::mean_obliquity_on` meets its contract.
use mathlib.Core.Path.{ap, ◌∙◌}
use Rattle.helpers.specs.rules.Angle.{radians_of}
use Rattle.chain.specs.rules.Obliquity.{mean_obliquity, mean_obliquity_of}
use Rattle.chain.proofs.mean_obliquity_on.Goals as goal

pub returns : goal.returns
unfolding mean_obliquity_of
returns c = c.radians.ensures ∙ ap radians_of (c.mean_obliquity.ensures ∙ ap mean_obliquity c.century.ensures)
