-- Wrong variants are excluded: each differs from the rule at the input stated.
use Rattle.std.specs.Prelude.{pos, refl, ◌≢◌}
use Rattle.double.specs.rules.Operations.{one, half}
use Rattle.double.specs.notions.Code.{of_number}
use Rattle.double.specs.laws.Apart.{apart}
use Rattle.quantity.specs.rules.Angle.{deg}
use Rattle.quantity.specs.notions.Code.{of_deg, of_float}
use Rattle.quantity.specs.notions.Stated.{r1}
use Rattle.units.specs.rules.Degrees.{to_degrees, milliarcseconds, degrees_of}
use Rattle.units.specs.rules.Nearest.{nearest_whole}
use Rattle.units.specs.notions.Computed.{computed}
use Rattle.units.specs.notions.Wrong.{radians_as_degrees, arcseconds, seconds_for_milliarcseconds, halves_toward_zero, cut_not_rounded}

pub radians_as_degrees_excluded : radians_as_degrees r1 ≢ to_degrees r1
unfolding computed
radians_as_degrees_excluded = apart of_deg refl

pub arcseconds_excluded : arcseconds (deg one) ≢ milliarcseconds (deg one)
unfolding computed
arcseconds_excluded = apart of_float refl

pub seconds_for_milliarcseconds_excluded : seconds_for_milliarcseconds (pos 1) ≢ degrees_of (pos 1)
unfolding computed
seconds_for_milliarcseconds_excluded = apart of_deg refl

pub halves_toward_zero_excluded : halves_toward_zero half ≢ nearest_whole half
unfolding computed
halves_toward_zero_excluded = apart of_number refl

pub cut_not_rounded_excluded : cut_not_rounded half ≢ nearest_whole half
unfolding computed
cut_not_rounded_excluded = apart of_number refl
