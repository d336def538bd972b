-- The published edition has Meeus's third angle as he prints it, whatever the arguments; and from 2451545.0 both editions are one.
use Rattle.std.specs.Prelude.{◌≡◌, refl, Float}
use Rattle.std.proofs.Common.{sym, ap, ◌∙◌}
use Rattle.std.specs.Float.{binary64}
use Rattle.std.specs.Float.Ieee.{neg, add, sub, mul, div, le, of_bits, round}
use Rattle.double.specs.rules.Operations.{◌⊕◌, ◌⊖◌, ◌⊗◌}
use Rattle.double.specs.rules.Sign.{is_finite}
use Rattle.double.specs.rules.Order.{NonZero}
use Rattle.double.specs.rules.Table.{over}
use Rattle.double.specs.notions.Range.{known, con, ◌⊞◌, ◌⊠◌}
use Rattle.double.specs.laws.Sign.{neg_neg}
use Rattle.double.specs.laws.Mirror.{mul_neg_r, sub_neg_neg, sub_neg_r, add_neg_r}
use Rattle.double.specs.laws.Between.{nonzero_of_positive}
use Rattle.double.specs.laws.Interval.{bounded}
use Rattle.quantity.specs.declared.Deg.{Deg}
use Rattle.quantity.specs.declared.Rad.{Rad}
use Rattle.quantity.specs.rules.Angle.{deg}
use Rattle.quantity.specs.rules.Answer.{Answer, Pair, then}
use Rattle.quantity.specs.rules.Refusal.{epoch, day_refusal}
use Rattle.quantity.specs.laws.Answer.{unless_cong}
use Rattle.edition.specs.declared.Edition.TheVariants.{Crate, Published}
use Rattle.helpers.specs.rules.Angle.{arc}
use Rattle.helpers.specs.rules.Time.{century_of}
use Rattle.precess_angles.specs.rules.Numbers.{n0·000217, n2004·3109, n0·8533, n0·42665, n0·041833, n1·09468, n0·000066}
use Rattle.precess_angles.specs.declared.EqAngles.{EqAngles}
use Rattle.precess_angles.specs.rules.Days.{span_of, place_refusal}
use Rattle.precess_angles.specs.rules.Equatorial.{eq_zeta, eq_theta, eq_angles_of, precession_by, eq_precession_of}
use Rattle.precess_angles.specs.notions.Editions.{zeta_published, theta_published, angles_by}
use Rattle.precess_angles.specs.notions.Computed.{computed}
use Rattle.precess_angles.specs.laws.Editions.{eq_angles_published}
use Rattle.precess.specs.rules.Equatorial.{precessed_in, precess_eq_coords_rule}
use Rattle.precess.specs.notions.Editions.{precessed_by}
use Rattle.nutation.specs.rules.Day.{nutation_rule}
use Rattle.chain.specs.rules.Chain.{from_point, chain_rule}
use Rattle.domain_accepted.specs.notions.Within.{Within}
use Rattle.domain.specs.notions.Editions.{theta_printed}
use Rattle.domain.specs.laws.Days.{century_within, first_accepted, place_accepted}

-- ---- the third angle

-- 0.85330 + 0.000217·T is above 0.5 seconds of arc, in degrees above 2^−13
sum_not_zero : (c : Float) → Within 20 c → NonZero (arc n0·8533 ⊕ c ⊗ arc n0·000217)
unfolding is_finite le neg add mul div of_bits round
sum_not_zero c C =
    nonzero_of_positive (over 1 8192) (arc n0·8533 ⊕ c ⊗ arc n0·000217) tt
    (bounded binary64 (over 1 8192) (over 1 1) (con (arc n0·8533) ⊞ known C ⊠ con (arc n0·000217)) tt).from

theta_printed_lem : (c t : Float) → Within 20 c → theta_published c t ≡ theta_printed c t
theta_printed_lem c t C =
    let a = arc n0·8533 in
    let y = c ⊗ arc n0·000217 in
    let negated : neg a ⊖ y ≡ neg (a ⊕ y) =
    ap (λ (z : Float). neg a ⊖ z) (sym (neg_neg y))
    ∙ sub_neg_neg binary64 a (neg y) (rw (sub_neg_r binary64 a y) (sum_not_zero c C))
    ∙ ap neg (sub_neg_r binary64 a y) in
    ap (λ (x : Float). deg (t ⊗ (arc n2004·3109 ⊕ x ⊖ t ⊗ ((arc n0·42665 ⊕ y) ⊕ t ⊗ arc n0·041833))))
    (ap (λ (z : Float). c ⊗ z) negated ∙ mul_neg_r binary64 c (a ⊕ y))
    ∙ ap (λ (x : Float). deg (t ⊗ (x ⊖ t ⊗ ((arc n0·42665 ⊕ y) ⊕ t ⊗ arc n0·041833)))) (add_neg_r binary64 (arc n2004·3109) (c ⊗ (a ⊕ y)))

-- bit for bit, of every accepted day
pub theta_as_printed : (day t : Float) → day_refusal day ≡ 0 → eq_theta Published (century_of day) t ≡ theta_printed (century_of day) t
unfolding eq_theta
theta_as_printed day t none = theta_printed_lem (century_of day) t (century_within day none)

-- so that all three angles are Meeus's as printed
pub eq_angles_as_printed : (day1 day2 : Float) → day_refusal day1 ≡ 0 → eq_angles_of Published day1 day2 ≡ angles_by zeta_published theta_printed day1 day2
eq_angles_as_printed day1 day2 none =
    let t = span_of day1 day2 in
    eq_angles_published day1 day2
    ∙ ap (λ (theta : Deg). angles_by zeta_published (λ (c u : Float). theta) day1 day2) (theta_printed_lem (century_of day1) t (century_within day1 none))

-- and so is the rule, of every place and any two days
pub precess_eq_coords_as_printed : (asc dec : Rad) (day1 day2 : Float)
    → precess_eq_coords_rule Published asc dec day1 day2 ≡ precessed_by zeta_published theta_printed asc dec day1 day2
unfolding eq_precession_of
precess_eq_coords_as_printed asc dec day1 day2 =
    let precessed : EqAngles → Answer Pair = λ (a : EqAngles). precessed_in asc dec (precession_by a) in
    unless_cong (place_refusal asc dec day1 day2) (precessed (eq_angles_of Published day1 day2)) (precessed (angles_by zeta_published theta_printed day1 day2))
    (λ none. ap precessed (eq_angles_as_printed day1 day2 (first_accepted day1 day2 (place_accepted asc dec day1 day2 none).2)))

-- ---- from 2451545.0, where T is zero

abbrev c0 : Float
c0 = century_of epoch

second_same : arc n1·09468 ⊕ c0 ⊗ arc n0·000066 ≡ arc n1·09468 ⊖ c0 ⊗ arc n0·000066
unfolding computed
second_same = refl

third_same : arc n2004·3109 ⊕ c0 ⊗ (neg (arc n0·8533) ⊖ c0 ⊗ arc n0·000217) ≡ arc n2004·3109 ⊕ c0 ⊗ (arc n0·8533 ⊖ c0 ⊗ arc n0·000217)
unfolding computed
third_same = refl

pub same_precession_from_the_epoch : (day : Float) → eq_precession_of Published epoch day ≡ eq_precession_of Crate epoch day
unfolding eq_precession_of eq_angles_of eq_zeta eq_theta
same_precession_from_the_epoch day = rw (second_same, third_same)

-- so every place is, and every star of the chain
pub same_places_from_the_epoch : (asc dec : Rad) (day : Float)
    → precess_eq_coords_rule Published asc dec epoch day ≡ precess_eq_coords_rule Crate asc dec epoch day
same_places_from_the_epoch asc dec day = rw (same_precession_from_the_epoch day)

pub same_chain_from_the_epoch : (asc dec : Rad) (day : Float) → chain_rule Published asc dec epoch day ≡ chain_rule Crate asc dec epoch day
unfolding chain_rule
same_chain_from_the_epoch asc dec day =
    ap (λ (a : Answer Pair). then a (λ (p : Pair). then (nutation_rule day) (λ (n : Pair). from_point p n day))) (same_places_from_the_epoch asc dec day)
