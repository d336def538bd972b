-- Refraction of an altitude in degrees, in minutes of arc (Meeus, chapter 16).
use Rattle.std.specs.Prelude.{ℕ, Float}
use Rattle.double.specs.rules.Operations.{zero, one, ◌⊕◌, ◌⊘◌}
use Rattle.quantity.specs.declared.Deg.{Deg}
use Rattle.quantity.specs.rules.Angle.{deg}
use Rattle.quantity.specs.rules.Answer.{Answer, answered, unless}
use Rattle.quantity.specs.rules.Refusal.{outside}
use Rattle.elementary.specs.rules.Sine.{tangent_of}
use Rattle.helpers.specs.rules.Angle.{radians_of}
use Rattle.atmos.specs.declared.Arcmin.{Arcmin}
use Rattle.atmos.specs.rules.Arcminutes.{arcmin}
use Rattle.atmos.specs.rules.Numbers.{n7·31, n4·4, n1·02, n10·3, n5·11, n89·8}

-- our tangent, after the conversion
unfoldable pub tangent_of_degrees : Deg → Float
tangent_of_degrees x = tangent_of (radians_of x)

-- h + 7.31/(h + 4.4)
abbrev pub angle_frm_apprnt : Deg → Deg
angle_frm_apprnt h = deg (h.0 ⊕ n7·31 ⊘ (h.0 ⊕ n4·4))

-- from the apparent altitude: 1/tan(h + 7.31/(h + 4.4))
unfoldable pub refrac_frm_apprnt_alt_of : Deg → Arcmin
refrac_frm_apprnt_alt_of h = arcmin (one ⊘ tangent_of_degrees (angle_frm_apprnt h))

-- h + 10.3/(h + 5.11)
abbrev pub angle_frm_true : Deg → Deg
angle_frm_true h = deg (h.0 ⊕ n10·3 ⊘ (h.0 ⊕ n5·11))

-- from the true altitude: 1.02/tan(h + 10.3/(h + 5.11))
unfoldable pub refrac_frm_true_alt_of : Deg → Arcmin
refrac_frm_true_alt_of h = arcmin (n1·02 ⊘ tangent_of_degrees (angle_frm_true h))

-- 1; 3 outside 0.0 to 89.8
unfoldable pub alt_refusal : Deg → ℕ
alt_refusal h = outside h.0 zero n89·8 3

abbrev pub refrac_frm_apprnt_alt_rule : Deg → Answer Arcmin
refrac_frm_apprnt_alt_rule h = unless (alt_refusal h) (answered (refrac_frm_apprnt_alt_of h))

abbrev pub refrac_frm_true_alt_rule : Deg → Answer Arcmin
refrac_frm_true_alt_rule h = unless (alt_refusal h) (answered (refrac_frm_true_alt_of h))
