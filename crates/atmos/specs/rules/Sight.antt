-- An altitude with its refraction taken away at the sight, and added for planning; both in degrees.
use Rattle.double.specs.rules.Operations.{◌⊕◌, ◌⊖◌}
use Rattle.quantity.specs.declared.Deg.{Deg}
use Rattle.quantity.specs.rules.Angle.{deg}
use Rattle.quantity.specs.rules.Answer.{Answer, answered, unless}
use Rattle.atmos.specs.rules.Arcminutes.{degrees_of}
use Rattle.atmos.specs.rules.Refraction.{refrac_frm_apprnt_alt_of, refrac_frm_true_alt_of, alt_refusal}

-- a measured altitude less the first, over 60
unfoldable pub sight_alt_of : Deg → Deg
sight_alt_of h = deg (h.0 ⊖ (degrees_of (refrac_frm_apprnt_alt_of h)).0)

abbrev pub sight_alt_rule : Deg → Answer Deg
sight_alt_rule h = unless (alt_refusal h) (answered (sight_alt_of h))

-- a computed altitude plus the second, over 60
unfoldable pub plan_alt_of : Deg → Deg
plan_alt_of h = deg (h.0 ⊕ (degrees_of (refrac_frm_true_alt_of h)).0)

abbrev pub plan_alt_rule : Deg → Answer Deg
plan_alt_rule h = unless (alt_refusal h) (answered (plan_alt_of h))
