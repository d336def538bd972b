-- Wrong variants are excluded: each differs from the rule at the input stated. A rule varies: a library that refuses everything, or
-- answers a constant, does not meet it.
use Rattle.std.specs.Prelude.{refl, ◌≢◌}
use Rattle.double.specs.notions.Code.{of_number}
use Rattle.double.specs.laws.Apart.{apart}
use Rattle.quantity.specs.notions.Code.{of_deg, of_answer}
use Rattle.quantity.specs.notions.Varies.{Varies}
use Rattle.atmos.specs.rules.Refraction.{refrac_frm_apprnt_alt_rule, refrac_frm_true_alt_rule, alt_refusal}
use Rattle.atmos.specs.rules.Sight.{sight_alt_rule, plan_alt_rule}
use Rattle.atmos.specs.notions.Code.{of_arcmin}
use Rattle.atmos.specs.notions.Computed.{computed}
use Rattle.atmos.specs.notions.Stated.{lowest, highest, d1, minus_lowest, below_lowest, above_highest}
use Rattle.atmos.specs.notions.Wrong.{apprnt_by_the_true_rule, apprnt_by_10_3, apprnt_in_degrees}
use Rattle.atmos.specs.notions.Wrong.{true_by_the_apprnt_rule, true_by_7_31, true_in_degrees}
use Rattle.atmos.specs.notions.Wrong.{sight_sixty_forgotten, plan_sixty_forgotten, sight_adds, plan_takes_away}
use Rattle.atmos.specs.notions.Wrong.{sight_by_the_true_rule, plan_by_the_apprnt_rule}
use Rattle.atmos.specs.notions.Wrong.{highest_refused, lowest_refused, size_tested, four_for_three}

-- ---- refraction from the apparent altitude

pub refrac_frm_apprnt_alt_varies : Varies (refrac_frm_apprnt_alt_rule d1) (refrac_frm_apprnt_alt_rule lowest)
unfolding computed
refrac_frm_apprnt_alt_varies = record { here = refl; there = refl; apart = apart (of_answer of_arcmin) refl }

pub apprnt_by_the_true_rule_excluded : apprnt_by_the_true_rule lowest ≢ refrac_frm_apprnt_alt_rule lowest
unfolding computed
apprnt_by_the_true_rule_excluded = apart (of_answer of_arcmin) refl

pub apprnt_by_10_3_excluded : apprnt_by_10_3 lowest ≢ refrac_frm_apprnt_alt_rule lowest
unfolding computed
apprnt_by_10_3_excluded = apart (of_answer of_arcmin) refl

pub apprnt_in_degrees_excluded : apprnt_in_degrees lowest ≢ refrac_frm_apprnt_alt_rule lowest
unfolding computed
apprnt_in_degrees_excluded = apart (of_answer of_arcmin) refl

-- ---- refraction from the true altitude

pub refrac_frm_true_alt_varies : Varies (refrac_frm_true_alt_rule d1) (refrac_frm_true_alt_rule lowest)
unfolding computed
refrac_frm_true_alt_varies = record { here = refl; there = refl; apart = apart (of_answer of_arcmin) refl }

pub true_by_the_apprnt_rule_excluded : true_by_the_apprnt_rule lowest ≢ refrac_frm_true_alt_rule lowest
unfolding computed
true_by_the_apprnt_rule_excluded = apart (of_answer of_arcmin) refl

pub true_by_7_31_excluded : true_by_7_31 lowest ≢ refrac_frm_true_alt_rule lowest
unfolding computed
true_by_7_31_excluded = apart (of_answer of_arcmin) refl

pub true_in_degrees_excluded : true_in_degrees lowest ≢ refrac_frm_true_alt_rule lowest
unfolding computed
true_in_degrees_excluded = apart (of_answer of_arcmin) refl

-- ---- the altitude of a sight

pub sight_alt_varies : Varies (sight_alt_rule d1) (sight_alt_rule lowest)
unfolding computed
sight_alt_varies = record { here = refl; there = refl; apart = apart (of_answer of_deg) refl }

pub sight_sixty_forgotten_excluded : sight_sixty_forgotten d1 ≢ sight_alt_rule d1
unfolding computed
sight_sixty_forgotten_excluded = apart (of_answer of_deg) refl

pub sight_adds_excluded : sight_adds d1 ≢ sight_alt_rule d1
unfolding computed
sight_adds_excluded = apart (of_answer of_deg) refl

pub sight_by_the_true_rule_excluded : sight_by_the_true_rule d1 ≢ sight_alt_rule d1
unfolding computed
sight_by_the_true_rule_excluded = apart (of_answer of_deg) refl

-- ---- the altitude at which to look

pub plan_alt_varies : Varies (plan_alt_rule d1) (plan_alt_rule lowest)
unfolding computed
plan_alt_varies = record { here = refl; there = refl; apart = apart (of_answer of_deg) refl }

pub plan_sixty_forgotten_excluded : plan_sixty_forgotten d1 ≢ plan_alt_rule d1
unfolding computed
plan_sixty_forgotten_excluded = apart (of_answer of_deg) refl

pub plan_takes_away_excluded : plan_takes_away d1 ≢ plan_alt_rule d1
unfolding computed
plan_takes_away_excluded = apart (of_answer of_deg) refl

pub plan_by_the_apprnt_rule_excluded : plan_by_the_apprnt_rule d1 ≢ plan_alt_rule d1
unfolding computed
plan_by_the_apprnt_rule_excluded = apart (of_answer of_deg) refl

-- ---- the refusals

pub highest_refused_excluded : highest_refused highest ≢ alt_refusal highest
unfolding computed
highest_refused_excluded = apart of_number refl

pub lowest_refused_excluded : lowest_refused minus_lowest ≢ alt_refusal minus_lowest
unfolding computed
lowest_refused_excluded = apart of_number refl

pub size_tested_excluded : size_tested below_lowest ≢ alt_refusal below_lowest
unfolding computed
size_tested_excluded = apart of_number refl

pub four_for_three_excluded : four_for_three above_highest ≢ alt_refusal above_highest
unfolding computed
four_for_three_excluded = apart of_number refl
