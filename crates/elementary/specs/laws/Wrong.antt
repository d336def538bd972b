-- Wrong variants are excluded: each differs from the rule at the input stated. A rule varies: a library that refuses everything, or
-- answers a constant, does not meet it.
use Rattle.std.specs.Prelude.{refl, ◌≢◌}
use Rattle.double.specs.rules.Operations.{bits, zero, one, two}
use Rattle.double.specs.laws.Apart.{apart}
use Rattle.quantity.specs.declared.EqPoint.{EqPoint}
use Rattle.quantity.specs.rules.Angle.{PI, rad}
use Rattle.quantity.specs.notions.Code.{of_float, of_answer}
use Rattle.quantity.specs.notions.Varies.{Varies}
use Rattle.elementary.specs.declared.SinCos.{SinCos}
use Rattle.elementary.specs.declared.TwoSinCos.{TwoSinCos}
use Rattle.elementary.specs.declared.Direction.{Direction}
use Rattle.elementary.specs.declared.Directions.{Directions}
use Rattle.elementary.specs.rules.Sine.{sin_cos_of, two_sin_cos_of, sine_rule, cosine_rule, tangent_rule}
use Rattle.elementary.specs.rules.Direction.{direction_of, directions_of}
use Rattle.elementary.specs.notions.Computed.{computed}
use Rattle.elementary.specs.notions.Wrong.{alone_limit_off_by_one_double, fold_without_p3, sine_regrouped, cosine_answers_sine, cosine_of_the_opposite_rest}
use Rattle.elementary.specs.notions.Wrong.{tangent_not_steep, tangent_upside_down, sin_cos_the_other_way, direction_traded, two_sin_cos_traded, directions_traded}
use Rattle.elementary.specs.notions.Wrong.{first_sin_cos_twice}

-- ---- sine

pub sine_varies : Varies (sine_rule (rad one)) (sine_rule (rad zero))
unfolding computed
sine_varies = record { here = refl; there = refl; apart = apart (of_answer of_float) refl }

-- the next double above 400000.0
pub alone_limit_off_by_one_double_excluded : alone_limit_off_by_one_double (rad (bits 0x41186a0000000001))
    ≢ sine_rule (rad (bits 0x41186a0000000001))
unfolding computed
alone_limit_off_by_one_double_excluded = apart (of_answer of_float) refl

pub fold_without_p3_excluded : fold_without_p3 (rad PI) ≢ sine_rule (rad PI)
unfolding computed
fold_without_p3_excluded = apart (of_answer of_float) refl

-- 0.48
pub sine_regrouped_excluded : sine_regrouped (rad (bits 0x3fdeb851eb851eb8)) ≢ sine_rule (rad (bits 0x3fdeb851eb851eb8))
unfolding computed
sine_regrouped_excluded = apart (of_answer of_float) refl

-- ---- cosine

pub cosine_varies : Varies (cosine_rule (rad one)) (cosine_rule (rad zero))
unfolding computed
cosine_varies = record { here = refl; there = refl; apart = apart (of_answer of_float) refl }

pub cosine_answers_sine_excluded : cosine_answers_sine (rad zero) ≢ cosine_rule (rad zero)
unfolding computed
cosine_answers_sine_excluded = apart (of_answer of_float) refl

pub cosine_of_the_opposite_rest_excluded : cosine_of_the_opposite_rest (rad two) ≢ cosine_rule (rad two)
unfolding computed
cosine_of_the_opposite_rest_excluded = apart (of_answer of_float) refl

-- ---- tangent

pub tangent_varies : Varies (tangent_rule (rad one)) (tangent_rule (rad zero))
unfolding computed
tangent_varies = record { here = refl; there = refl; apart = apart (of_answer of_float) refl }

pub tangent_not_steep_excluded : tangent_not_steep (rad two) ≢ tangent_rule (rad two)
unfolding computed
tangent_not_steep_excluded = apart (of_answer of_float) refl

pub tangent_upside_down_excluded : tangent_upside_down (rad one) ≢ tangent_rule (rad one)
unfolding computed
tangent_upside_down_excluded = apart (of_answer of_float) refl

-- ---- both at once, and a point's direction

pub sin_cos_the_other_way_excluded : sin_cos_the_other_way (rad two) ≢ sin_cos_of (rad two)
unfolding computed
sin_cos_the_other_way_excluded = apart (λ (t : SinCos). of_float t.cosine) refl

abbrev point : EqPoint
point = record { asc = zero; dec = zero }

pub direction_traded_excluded : direction_traded point ≢ direction_of point
unfolding computed
direction_traded_excluded = apart (λ (d : Direction). of_float d.sin_dec) refl

-- ---- two side by side

pub two_sin_cos_traded_excluded : two_sin_cos_traded (rad one) (rad zero) ≢ two_sin_cos_of (rad one) (rad zero)
unfolding computed
two_sin_cos_traded_excluded = apart (λ (t : TwoSinCos). of_float t.first_sine) refl

pub first_sin_cos_twice_excluded : first_sin_cos_twice (rad one) (rad zero) ≢ two_sin_cos_of (rad one) (rad zero)
unfolding computed
first_sin_cos_twice_excluded = apart (λ (t : TwoSinCos). of_float t.second_cosine) refl

abbrev beside : EqPoint
beside = record { asc = one; dec = zero }

pub directions_traded_excluded : directions_traded point beside ≢ directions_of point beside
unfolding computed
directions_traded_excluded = apart (λ (d : Directions). of_float d.second.sin_asc) refl
