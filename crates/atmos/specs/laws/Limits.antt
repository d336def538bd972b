-- The limits: 0.0, −0.0 and 89.8 are accepted, and the next doubles beyond are refused by 3; −0.0 is answered as 0.0.
use Rattle.std.specs.Prelude.{ℕ, ◌≡◌, refl, List, [], ◌∷◌}
use Rattle.double.specs.rules.Table.{Row, ◌is◌, Agrees}
use Rattle.atmos.specs.rules.Refraction.{alt_refusal, refrac_frm_apprnt_alt_rule, refrac_frm_true_alt_rule}
use Rattle.atmos.specs.rules.Sight.{sight_alt_rule, plan_alt_rule}
use Rattle.atmos.specs.notions.Computed.{computed}
use Rattle.atmos.specs.notions.Stated.{lowest, highest, minus_lowest, below_lowest, above_highest}

abbrev rows : List (Row ℕ)
rows =
    (alt_refusal lowest is 0)
    ∷ (alt_refusal minus_lowest is 0)
    ∷ (alt_refusal highest is 0)
    ∷ (alt_refusal below_lowest is 3)
    ∷ (alt_refusal above_highest is 3)
    ∷ []

pub limits : Agrees rows
unfolding computed
limits = refl

pub minus_zero_is_zero : (refrac_frm_apprnt_alt_rule minus_lowest ≡ refrac_frm_apprnt_alt_rule lowest) ×
    (refrac_frm_true_alt_rule minus_lowest ≡ refrac_frm_true_alt_rule lowest) × (sight_alt_rule minus_lowest ≡ sight_alt_rule lowest) ×
    (plan_alt_rule minus_lowest ≡ plan_alt_rule lowest)
unfolding computed
minus_zero_is_zero = (refl, refl, refl, refl)
