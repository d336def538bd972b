-- Annual precession (Meeus, chapter 21), at the century c of a day.
use Rattle.std.specs.Prelude.{ℕ, Float}
use Rattle.double.specs.rules.Operations.{◌⊕◌, ◌⊖◌, ◌⊗◌}
use Rattle.quantity.specs.declared.Deg.{Deg}
use Rattle.quantity.specs.declared.Rad.{Rad}
use Rattle.quantity.specs.rules.Angle.{deg}
use Rattle.quantity.specs.rules.Answer.{Answer, answered, Pair, pair, unless}
use Rattle.quantity.specs.rules.Refusal.{lower, day_refusal, angle_refusal, steep_refusal}
use Rattle.elementary.specs.declared.Folded.{Folded}
use Rattle.elementary.specs.rules.Fold.{fold}
use Rattle.elementary.specs.rules.Sine.{folded_sine, folded_cosine, folded_tangent}
use Rattle.helpers.specs.rules.Angle.{hour_arc, radians_of}
use Rattle.helpers.specs.rules.Time.{century_of}
use Rattle.precess.specs.rules.Numbers.{n3·07496, n0·00186, n1·33621, n0·00057}

unfoldable pub annual_m : Float → Deg
annual_m c = deg (hour_arc n3·07496 ⊕ hour_arc n0·00186 ⊗ c)

unfoldable pub annual_n : Float → Deg
annual_n c = deg (hour_arc n1·33621 ⊖ hour_arc n0·00057 ⊗ c)

-- m + n·sin a·tan d, and n·cos a
unfoldable pub annual_at : Rad → Rad → Folded → Folded → Answer Pair
annual_at m n a d = answered (pair (m.0 ⊕ n.0 ⊗ folded_sine a ⊗ folded_tangent d) (n.0 ⊗ folded_cosine a))

unfoldable pub annual_in : Rad → Rad → Float → Answer Pair
annual_in asc dec day =
    let c = century_of day in
    annual_at (radians_of (annual_m c)) (radians_of (annual_n c)) (fold asc) (fold dec)

abbrev pub annual_refusal : Rad → Rad → Float → ℕ
annual_refusal asc dec day = lower (lower (angle_refusal asc) (steep_refusal dec)) (day_refusal day)

abbrev pub annual_precess_rule : Rad → Rad → Float → Answer Pair
annual_precess_rule asc dec day = unless (annual_refusal asc dec day) (annual_in asc dec day)
