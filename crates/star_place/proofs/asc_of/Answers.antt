-- `star_place::asc_of` meets its contract.
use mathlib.Core.Path.{ap, ◌∙◌}
use Rattle.signed.specs.laws.Signed.{signed_word}
use Rattle.star_place.specs.rules.Place.{angle_of}
use Rattle.star_place.proofs.asc_of.Goals as goal

pub returns : goal.returns
returns c =
    let star = c.args.star in
    let change = c.angle_of.ensures ∙ ap angle_of (signed_word star.asc_rate c.struct_told-1.given.1.1.1.0.1) in
    rw (change, c.radians.ensures, c.degrees_of.ensures) at c.shifted.ensures
