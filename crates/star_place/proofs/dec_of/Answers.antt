-- `star_place::dec_of` meets its contract.
use mathlib.Core.Path.{ap, ◌∙◌}
use Rattle.signed.specs.laws.Signed.{signed_word}
use Rattle.star_place.specs.rules.Place.{angle_of}
use Rattle.star_place.proofs.dec_of.Goals as goal

pub returns : goal.returns
returns c =
    let star = c.args.star in
    let dec = c.angle_of.ensures ∙ ap angle_of (signed_word star.dec c.struct_told-1.given.1.1.0.1) in
    let change = c.angle_of-2.ensures ∙ ap angle_of (signed_word star.dec_rate c.struct_told-2-1.given.1.1.1.1.0.1) in
    rw (change, dec) at c.shifted.ensures
