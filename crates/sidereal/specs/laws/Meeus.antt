-- Meeus's examples 12.a and 12.b, worked out.
use Rattle.std.specs.Prelude.{◌≡◌, refl}
use Rattle.double.specs.rules.Operations.{bits, ◌⊖◌}
use Rattle.quantity.specs.rules.Angle.{deg, rad}
use Rattle.quantity.specs.rules.Answer.{answered}
use Rattle.quantity.specs.rules.Refusal.{epoch}
use Rattle.nutation_args.specs.notions.Computed as sums
use Rattle.nutation_table.specs.rules.Day.{nutation_of}
use Rattle.helpers.specs.rules.Angle.{within360}
use Rattle.helpers.specs.rules.Time.{century_of}
use Rattle.sidereal.specs.rules.Mean.{mean_in_degrees, mean_sidereal_rule}
use Rattle.sidereal.specs.rules.Apparent.{apparent_sidereal_rule}
use Rattle.sidereal.specs.notions.Computed.{computed}
use Rattle.sidereal.specs.notions.Stated.{april10, evening}

-- 12.a: 197.693195 degrees, 13h10m46.3668s
pub mean_on_april_10 : within360 (mean_in_degrees (april10 ⊖ epoch) (century_of april10)) ≡ deg (bits 0x4068b62ea778a000)
unfolding computed
mean_on_april_10 = refl

pub mean_rule_on_april_10 : mean_sidereal_rule april10 ≡ answered (rad (bits 0x400b9a69d3ee98c8))
unfolding computed
mean_rule_on_april_10 = refl

-- 13h10m46.1351s
pub apparent_on_april_10 : apparent_sidereal_rule april10 ≡ answered (rad (bits 0x400b9a60fe9197d7))
unfolding computed sums.computed nutation_of
apparent_on_april_10 = refl

-- 12.b: 128.7378734 degrees, 8h34m57.0896s
pub mean_in_the_evening : within360 (mean_in_degrees (evening ⊖ epoch) (century_of evening)) ≡ deg (bits 0x4060179ca859a000)
unfolding computed
mean_in_the_evening = refl
