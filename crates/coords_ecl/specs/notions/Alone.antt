-- Each angle asked for alone, as the Rust has it: two rules, whose bits and refusals the one call keeps.
use Rattle.double.specs.rules.Operations.{◌⊕◌, ◌⊖◌, ◌⊗◌}
use Rattle.quantity.specs.declared.Rad.{Rad}
use Rattle.quantity.specs.rules.Answer.{Answer, unless}
use Rattle.elementary.specs.rules.Sine.{sine_of, cosine_of, tangent_of}
use Rattle.elementary_arc.specs.rules.Arctangent.{arctangent_in}
use Rattle.elementary_arc.specs.rules.Arcsine.{arcsine_in}
use Rattle.coords_ecl.specs.rules.Arguments.{frame_refusal, steep_frame_refusal}

-- 1; 3; 4
abbrev pub longitude_alone : Rad → Rad → Rad → Answer Rad
longitude_alone a d e =
    unless (steep_frame_refusal a d e) (arctangent_in (sine_of a ⊗ cosine_of e ⊕ tangent_of d ⊗ sine_of e) (cosine_of a))

-- 1; 3; then 7
abbrev pub latitude_alone : Rad → Rad → Rad → Answer Rad
latitude_alone a d e =
    unless (frame_refusal a d e) (arcsine_in (sine_of d ⊗ cosine_of e ⊖ cosine_of d ⊗ sine_of e ⊗ sine_of a))
