-- Refraction of an altitude that is not refused is above zero and 35 minutes of arc at most, from the true altitude 30; so an altitude is
-- never raised at the sight nor lowered for planning, and moves by no more than that.
use Rattle.std.specs.Prelude.{◌≡◌, T}
use Rattle.std.specs.Float.Ieee.{binary64, neg, add, sub, div, le, fits, of_bits, round}
use Rattle.double.specs.rules.Operations.{one, ◌⊕◌, ◌⊖◌}
use Rattle.double.specs.rules.Sign.{is_finite}
use Rattle.double.specs.rules.Order.{Finite, Between}
use Rattle.double.specs.rules.Table.{over, minus_over}
use Rattle.double.specs.notions.Range.{known, con, ◌⊞◌, ◌⊟◌, ◌⧄◌}
use Rattle.double.specs.laws.Order.{le_refl}
use Rattle.double.specs.laws.Between.{between, plus_of_positive}
use Rattle.double.specs.laws.Monotone.{add_mono, sub_mono}
use Rattle.double.specs.laws.Interval.{bounded}
use Rattle.quantity.specs.declared.Deg.{Deg}
use Rattle.quantity.specs.rules.Answer.{answered}
use Rattle.helpers.specs.rules.Angle.{radians_of}
use Rattle.atmos.specs.declared.Arcmin.{Arcmin}
use Rattle.atmos.specs.rules.Arcminutes.{minutes_of_degree, degrees_of}
use Rattle.atmos.specs.rules.Numbers.{n1·02}
use Rattle.atmos.specs.rules.Refraction.{tangent_of_degrees, angle_frm_apprnt, angle_frm_true, refrac_frm_apprnt_alt_of, refrac_frm_true_alt_of}
use Rattle.atmos.specs.rules.Refraction.{alt_refusal, refrac_frm_apprnt_alt_rule, refrac_frm_true_alt_rule}
use Rattle.atmos.specs.rules.Sight.{sight_alt_of, sight_alt_rule, plan_alt_of, plan_alt_rule}
use Rattle.domain_accepted.specs.notions.Outcome.{Never}
use Rattle.domain_accepted.specs.laws.Outcome.{outcome_answered, rule_answers}
use Rattle.domain.specs.laws.AtmosAngle.{least_apprnt, least_true, least_apprnt_sine, least_true_sine, alt_accepted}
use Rattle.domain.specs.laws.AtmosAngle.{apprnt_angle, true_angle, apprnt_sine, true_sine, sine_up_to_one, cosine_up_to_one}
use Rattle.domain.specs.laws.Moved.{not_raised, not_lowered}

-- ---- refraction

module _ (h : Deg) (none : alt_refusal h ≡ 0) where
  -- above zero, and 35 minutes of arc at most
  apprnt_refraction : Between (over 1 16384) (over 35 1) (refrac_frm_apprnt_alt_of h).0
  unfolding refrac_frm_apprnt_alt_of tangent_of_degrees is_finite le neg div of_bits round
  apprnt_refraction =
      let x = radians_of (angle_frm_apprnt h) in
      let i = apprnt_angle h none in
      bounded binary64 (over 1 16384) (over 35 1)
      (con one
      ⧄ (known (sine_up_to_one least_apprnt tt x i least_apprnt_sine tt (apprnt_sine x i)) ⧄ known (cosine_up_to_one least_apprnt tt x i))) tt

  -- 30 from the true altitude
  true_refraction : Between (over 1 16384) (over 30 1) (refrac_frm_true_alt_of h).0
  unfolding refrac_frm_true_alt_of tangent_of_degrees is_finite le neg div of_bits round
  true_refraction =
      let x = radians_of (angle_frm_true h) in
      let i = true_angle h none in
      bounded binary64 (over 1 16384) (over 30 1)
      (con n1·02
      ⧄ (known (sine_up_to_one least_true tt x i least_true_sine tt (true_sine x i)) ⧄ known (cosine_up_to_one least_true tt x i))) tt

module _ (h : Deg) where
  pub refrac_frm_apprnt_alt_answers : (v : Arcmin) → refrac_frm_apprnt_alt_rule h ≡ answered v → Between (over 1 16384) (over 35 1) v.0
  refrac_frm_apprnt_alt_answers =
      rule_answers {P = λ (v : Arcmin). Between (over 1 16384) (over 35 1) v.0} {Q = Never} (alt_refusal h)
      (answered (refrac_frm_apprnt_alt_of h)) (λ none. outcome_answered (refrac_frm_apprnt_alt_of h) (apprnt_refraction h none))

  pub refrac_frm_apprnt_alt_finite : (v : Arcmin) → refrac_frm_apprnt_alt_rule h ≡ answered v → Finite v.0
  refrac_frm_apprnt_alt_finite v e = (refrac_frm_apprnt_alt_answers v e).finite

  pub refrac_frm_true_alt_answers : (v : Arcmin) → refrac_frm_true_alt_rule h ≡ answered v → Between (over 1 16384) (over 30 1) v.0
  refrac_frm_true_alt_answers =
      rule_answers {P = λ (v : Arcmin). Between (over 1 16384) (over 30 1) v.0} {Q = Never} (alt_refusal h)
      (answered (refrac_frm_true_alt_of h)) (λ none. outcome_answered (refrac_frm_true_alt_of h) (true_refraction h none))

  pub refrac_frm_true_alt_finite : (v : Arcmin) → refrac_frm_true_alt_rule h ≡ answered v → Finite v.0
  refrac_frm_true_alt_finite v e = (refrac_frm_true_alt_answers v e).finite

-- ---- the altitudes: h is a double, as every f64 is

module _ (h : Deg) (F : T (fits binary64 h.0)) where
  sight_moved : alt_refusal h ≡ 0 → Between (h.0 ⊖ over 35 60) h.0 (sight_alt_of h).0
  unfolding sight_alt_of is_finite le neg sub div of_bits round
  sight_moved none =
      let i = alt_accepted h none in
      let y = (degrees_of (refrac_frm_apprnt_alt_of h)).0 in
      let j : Between (over 1 1048576) (over 35 60) y =
      bounded binary64 (over 1 1048576) (over 35 60) (known (apprnt_refraction h none) ⧄ con minutes_of_degree) tt in
      let end = bounded binary64 (minus_over 1 1) (over 90 1) (known i ⊟ con (over 35 60)) tt in
      between end.finite i.finite
      (sub_mono binary64 h.0 h.0 (over 35 60) y i.finite i.finite tt j.finite (le_refl h.0 i.finite) j.to)
      (not_raised h.0 y F i.finite j.finite (plus_of_positive (over 1 1048576) y tt j.from))

  plan_moved : alt_refusal h ≡ 0 → Between h.0 (h.0 ⊕ over 30 60) (plan_alt_of h).0
  unfolding plan_alt_of is_finite le neg add div of_bits round
  plan_moved none =
      let i = alt_accepted h none in
      let y = (degrees_of (refrac_frm_true_alt_of h)).0 in
      let j : Between (over 1 1048576) (over 30 60) y =
      bounded binary64 (over 1 1048576) (over 30 60) (known (true_refraction h none) ⧄ con minutes_of_degree) tt in
      let end = bounded binary64 (minus_over 1 1) (over 91 1) (known i ⊞ con (over 30 60)) tt in
      between i.finite end.finite
      (not_lowered h.0 y F i.finite j.finite (plus_of_positive (over 1 1048576) y tt j.from))
      (add_mono binary64 h.0 h.0 y (over 30 60) i.finite i.finite j.finite tt (le_refl h.0 i.finite) j.to)

  -- never raised, and lowered by 35/60 of a degree at most
  pub sight_alt_answers : (v : Deg) → sight_alt_rule h ≡ answered v → Between (h.0 ⊖ over 35 60) h.0 v.0
  sight_alt_answers =
      rule_answers {P = λ (v : Deg). Between (h.0 ⊖ over 35 60) h.0 v.0} {Q = Never} (alt_refusal h) (answered (sight_alt_of h))
      (λ none. outcome_answered (sight_alt_of h) (sight_moved none))

  pub sight_alt_finite : (v : Deg) → sight_alt_rule h ≡ answered v → Finite v.0
  sight_alt_finite v e = (sight_alt_answers v e).finite

  -- never lowered, and raised by 30/60 of a degree at most
  pub plan_alt_answers : (v : Deg) → plan_alt_rule h ≡ answered v → Between h.0 (h.0 ⊕ over 30 60) v.0
  plan_alt_answers =
      rule_answers {P = λ (v : Deg). Between h.0 (h.0 ⊕ over 30 60) v.0} {Q = Never} (alt_refusal h) (answered (plan_alt_of h))
      (λ none. outcome_answered (plan_alt_of h) (plan_moved none))

  pub plan_alt_finite : (v : Deg) → plan_alt_rule h ≡ answered v → Finite v.0
  plan_alt_finite v e = (plan_alt_answers v e).finite
