-- Wrong variants of refraction, and of the altitudes by it.
use Rattle.std.specs.Prelude.{ℕ, cond}
use Rattle.std.specs.Float.Ieee.{le, lt}
use Rattle.double.specs.rules.Operations.{zero, one, ◌⊕◌, ◌⊖◌, ◌⊘◌}
use Rattle.double.specs.rules.Sign.{is_finite}
use Rattle.quantity.specs.declared.Deg.{Deg}
use Rattle.quantity.specs.rules.Angle.{deg, rad}
use Rattle.quantity.specs.rules.Answer.{Answer, answered, unless}
use Rattle.quantity.specs.rules.Refusal.{past, outside}
use Rattle.elementary.specs.rules.Sine.{tangent_of}
use Rattle.atmos.specs.declared.Arcmin.{Arcmin}
use Rattle.atmos.specs.rules.Arcminutes.{arcmin, degrees_of}
use Rattle.atmos.specs.rules.Numbers.{n7·31, n4·4, n1·02, n10·3, n5·11, n89·8}
use Rattle.atmos.specs.rules.Refraction.{tangent_of_degrees, angle_frm_apprnt, angle_frm_true}
use Rattle.atmos.specs.rules.Refraction.{refrac_frm_apprnt_alt_of, refrac_frm_true_alt_of, alt_refusal}

-- ---- refraction

-- each rule for the other's altitude
abbrev pub apprnt_by_the_true_rule : Deg → Answer Arcmin
apprnt_by_the_true_rule h = unless (alt_refusal h) (answered (refrac_frm_true_alt_of h))

abbrev pub true_by_the_apprnt_rule : Deg → Answer Arcmin
true_by_the_apprnt_rule h = unless (alt_refusal h) (answered (refrac_frm_apprnt_alt_of h))

-- 7.31 and 10.3 traded
abbrev pub apprnt_by_10_3 : Deg → Answer Arcmin
apprnt_by_10_3 h = unless (alt_refusal h) (answered (arcmin (one ⊘ tangent_of_degrees (deg (h.0 ⊕ n10·3 ⊘ (h.0 ⊕ n4·4))))))

abbrev pub true_by_7_31 : Deg → Answer Arcmin
true_by_7_31 h = unless (alt_refusal h) (answered (arcmin (n1·02 ⊘ tangent_of_degrees (deg (h.0 ⊕ n7·31 ⊘ (h.0 ⊕ n5·11))))))

-- the argument left in degrees
abbrev pub apprnt_in_degrees : Deg → Answer Arcmin
apprnt_in_degrees h = unless (alt_refusal h) (answered (arcmin (one ⊘ tangent_of (rad (angle_frm_apprnt h).0))))

abbrev pub true_in_degrees : Deg → Answer Arcmin
true_in_degrees h = unless (alt_refusal h) (answered (arcmin (n1·02 ⊘ tangent_of (rad (angle_frm_true h).0))))

-- ---- the altitudes

-- minutes of arc taken for degrees
abbrev pub sight_sixty_forgotten : Deg → Answer Deg
sight_sixty_forgotten h = unless (alt_refusal h) (answered (deg (h.0 ⊖ (refrac_frm_apprnt_alt_of h).0)))

abbrev pub plan_sixty_forgotten : Deg → Answer Deg
plan_sixty_forgotten h = unless (alt_refusal h) (answered (deg (h.0 ⊕ (refrac_frm_true_alt_of h).0)))

-- added for taken away
abbrev pub sight_adds : Deg → Answer Deg
sight_adds h = unless (alt_refusal h) (answered (deg (h.0 ⊕ (degrees_of (refrac_frm_apprnt_alt_of h)).0)))

abbrev pub plan_takes_away : Deg → Answer Deg
plan_takes_away h = unless (alt_refusal h) (answered (deg (h.0 ⊖ (degrees_of (refrac_frm_true_alt_of h)).0)))

-- each by the other's refraction
abbrev pub sight_by_the_true_rule : Deg → Answer Deg
sight_by_the_true_rule h = unless (alt_refusal h) (answered (deg (h.0 ⊖ (degrees_of (refrac_frm_true_alt_of h)).0)))

abbrev pub plan_by_the_apprnt_rule : Deg → Answer Deg
plan_by_the_apprnt_rule h = unless (alt_refusal h) (answered (deg (h.0 ⊕ (degrees_of (refrac_frm_apprnt_alt_of h)).0)))

-- ---- the refusals

-- 89.8 itself refused
abbrev pub highest_refused : Deg → ℕ
highest_refused h = cond (is_finite h.0) (cond (lt h.0 zero) 3 (cond (le n89·8 h.0) 3 0)) 1

-- −0.0 refused with the numbers below zero, and 0.0
abbrev pub lowest_refused : Deg → ℕ
lowest_refused h = cond (is_finite h.0) (cond (le h.0 zero) 3 (cond (lt n89·8 h.0) 3 0)) 1

-- a star below the horizon let in
abbrev pub size_tested : Deg → ℕ
size_tested h = past h.0 n89·8 3

-- 4, as for a tangent
abbrev pub four_for_three : Deg → ℕ
four_for_three h = outside h.0 zero n89·8 4
