-- Wrong variants are excluded: each differs from the rule at the input stated. A rule varies: a library that refuses everything, or
-- answers a constant, does not meet it.
use Rattle.std.specs.Prelude.{refl, false, ◌≢◌}
use Rattle.std.specs.Float.{inf}
use Rattle.std.specs.Float.Ieee.{neg}
use Rattle.double.specs.rules.Operations.{bits, zero, half, one, two}
use Rattle.double.specs.notions.Stated.{minus_zero, past_one}
use Rattle.double.specs.laws.Apart.{apart}
use Rattle.quantity.specs.notions.Code.{of_float, of_rad, of_answer}
use Rattle.quantity.specs.notions.Varies.{Varies}
use Rattle.elementary_arc.specs.rules.Arctangent.{arctangent_rule}
use Rattle.elementary_arc.specs.declared.Arctangents.{Arctangents}
use Rattle.elementary_arc.specs.rules.Level.{lesser_over, reduced, arctangents_of}
use Rattle.elementary_arc.specs.rules.Arcsine.{arcsine_rule}
use Rattle.elementary_arc.specs.notions.Computed.{computed}
use Rattle.elementary_arc.specs.notions.Wrong.{one_argument, minus_zero_is_plus, behind_is_ahead, only_plus_zeros_refused, minus_zero_not_seen}
use Rattle.elementary_arc.specs.notions.Wrong.{zeros_answered, arctangent_lets_infinity_in, arcsine_clamped, arcsine_limit_off, arcsine_root_regrouped}
use Rattle.elementary_arc.specs.notions.Wrong.{arcsine_lets_infinity_in, arctangents_traded, first_over, not_reduced}

-- ---- arctangent

pub arctangent_varies : Varies (arctangent_rule one one) (arctangent_rule zero one)
unfolding computed
arctangent_varies = record { here = refl; there = refl; apart = apart (of_answer of_rad) refl }

pub one_argument_excluded : one_argument one (neg one) ≢ arctangent_rule one (neg one)
unfolding computed
one_argument_excluded = apart (of_answer of_rad) refl

pub minus_zero_is_plus_excluded : minus_zero_is_plus minus_zero (neg one) ≢ arctangent_rule minus_zero (neg one)
unfolding computed
minus_zero_is_plus_excluded = apart (of_answer of_rad) refl

pub behind_is_ahead_excluded : behind_is_ahead one (neg one) ≢ arctangent_rule one (neg one)
unfolding computed
behind_is_ahead_excluded = apart (of_answer of_rad) refl

pub only_plus_zeros_refused_excluded : only_plus_zeros_refused minus_zero zero ≢ arctangent_rule minus_zero zero
unfolding computed
only_plus_zeros_refused_excluded = apart (of_answer of_rad) refl

pub minus_zero_not_seen_excluded : minus_zero_not_seen zero minus_zero ≢ arctangent_rule zero minus_zero
unfolding computed
minus_zero_not_seen_excluded = apart (of_answer of_rad) refl

pub zeros_answered_excluded : zeros_answered zero minus_zero ≢ arctangent_rule zero minus_zero
unfolding computed
zeros_answered_excluded = apart (of_answer of_rad) refl

pub arctangent_lets_infinity_in_excluded : arctangent_lets_infinity_in one (inf false) ≢ arctangent_rule one (inf false)
unfolding computed
arctangent_lets_infinity_in_excluded = apart (of_answer of_rad) refl

-- ---- arcsine

pub arcsine_varies : Varies (arcsine_rule half) (arcsine_rule zero)
unfolding computed
arcsine_varies = record { here = refl; there = refl; apart = apart (of_answer of_rad) refl }

pub arcsine_clamped_excluded : arcsine_clamped past_one ≢ arcsine_rule past_one
unfolding computed
arcsine_clamped_excluded = apart (of_answer of_rad) refl

pub arcsine_limit_off_excluded : arcsine_limit_off past_one ≢ arcsine_rule past_one
unfolding computed
arcsine_limit_off_excluded = apart (of_answer of_rad) refl

pub arcsine_lets_infinity_in_excluded : arcsine_lets_infinity_in (inf false) ≢ arcsine_rule (inf false)
unfolding computed
arcsine_lets_infinity_in_excluded = apart (of_answer of_rad) refl

-- 0.11
pub arcsine_root_regrouped_excluded : arcsine_root_regrouped (bits 0x3fbc28f5c28f5c29) ≢ arcsine_rule (bits 0x3fbc28f5c28f5c29)
unfolding computed
arcsine_root_regrouped_excluded = apart (of_answer of_rad) refl

-- ---- two side by side

pub arctangents_traded_excluded : arctangents_traded one one zero one ≢ arctangents_of one one zero one
unfolding computed
arctangents_traded_excluded = apart (λ (a : Arctangents). of_rad a.first) refl

pub first_over_excluded : first_over two one ≢ lesser_over two one
unfolding computed
first_over_excluded = apart of_float refl

pub not_reduced_excluded : not_reduced half ≢ reduced half
unfolding computed
not_reduced_excluded = apart of_float refl
