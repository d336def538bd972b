-- What a theorem opens that works rules out at stated inputs: refraction, over the elementary functions.
use Rattle.std.specs.Prelude.{ℕ}
use Rattle.elementary.specs.notions.Computed as elementary
use Rattle.atmos.specs.rules.Refraction.{tangent_of_degrees, refrac_frm_apprnt_alt_of, refrac_frm_true_alt_of, alt_refusal}
use Rattle.atmos.specs.rules.Sight.{sight_alt_of, plan_alt_of}

-- a name for the line below it, which is what counts
unfoldable pub computed : ℕ
unfolding elementary.computed tangent_of_degrees refrac_frm_apprnt_alt_of refrac_frm_true_alt_of alt_refusal sight_alt_of plan_alt_of
computed = 0
