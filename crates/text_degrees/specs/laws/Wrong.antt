-- Wrong variants are excluded: each differs from the rule at the text stated.
use Rattle.std.specs.Prelude.{refl, ◌≢◌}
use Rattle.double.specs.laws.Apart.{apart}
use Rattle.text_number.specs.rules.Bytes.{ascii}
use Rattle.text_degrees.specs.rules.Degrees.{degrees_rule}
use Rattle.text_degrees.specs.notions.Code.{of_angle}
use Rattle.text_degrees.specs.notions.Computed.{computed}
use Rattle.text_degrees.specs.notions.Wrong.{minus_lost, two_signs}

pub minus_lost_excluded : minus_lost (ascii "-1.5") ≢ degrees_rule (ascii "-1.5")
unfolding computed
minus_lost_excluded = apart of_angle refl

pub two_signs_excluded : two_signs (ascii "--1.5") ≢ degrees_rule (ascii "--1.5")
unfolding computed
two_signs_excluded = apart of_angle refl
