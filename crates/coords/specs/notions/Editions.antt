-- Each edition's declination from azimuth z, altitude a and latitude p, written out whole, the crate's as it was before there were two.
use Rattle.double.specs.rules.Operations.{◌⊖◌, ◌⊗◌}
use Rattle.quantity.specs.declared.Rad.{Rad}
use Rattle.quantity.specs.rules.Answer.{Answer, unless}
use Rattle.elementary.specs.rules.Sine.{sine_of, cosine_of}
use Rattle.elementary_arc.specs.rules.Arcsine.{arcsine_in}
use Rattle.coords.specs.rules.Arguments.{sky_refusal}

abbrev pub dec_of_crate : Rad → Rad → Rad → Answer Rad
dec_of_crate z a p =
    unless (sky_refusal z a p) (arcsine_in (sine_of p ⊗ sine_of a ⊖ cosine_of p ⊗ cosine_of z ⊗ cosine_of z))

abbrev pub dec_published : Rad → Rad → Rad → Answer Rad
dec_published z a p =
    unless (sky_refusal z a p) (arcsine_in (sine_of p ⊗ sine_of a ⊖ cosine_of p ⊗ cosine_of a ⊗ cosine_of z))
