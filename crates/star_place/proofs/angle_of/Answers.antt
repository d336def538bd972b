-- `star_place::angle_of` meets its contract.
use mathlib.Core.Path.{ap, ◌∙◌}
use Rattle.units.specs.rules.Degrees.{degrees_of}
use Rattle.signed.specs.laws.Signed.{signed_word}
use Rattle.star_place.proofs.angle_of.Goals as goal

pub returns : goal.returns
returns c =
    rw (c.degrees_of_signed.ensures ∙ ap degrees_of (signed_word c.args.count c.ranges.count.sfits)) at c.radians.ensures
