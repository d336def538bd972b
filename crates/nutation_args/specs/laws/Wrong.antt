-- Wrong variants are excluded: each differs from the rule at the input stated.
use Rattle.std.specs.Prelude.{ℕ, refl, pos, ◌≢◌}
use Rattle.double.specs.rules.Operations.{bits, zero, one}
use Rattle.double.specs.laws.Apart.{apart}
use Rattle.quantity.specs.rules.Angle.{deg}
use Rattle.quantity.specs.notions.Code.{of_deg, of_rad}
use Rattle.quantity.specs.notions.Stated.{r0, r1}
use Rattle.nutation_args.specs.declared.Row.{Row}
use Rattle.nutation_args.specs.declared.Moon.{Moon}
use Rattle.nutation_args.specs.declared.Sums.{Sums}
use Rattle.nutation_args.specs.declared.Nutations.{Nutations}
use Rattle.nutation_args.specs.rules.Arguments.{moon_of}
use Rattle.nutation_args.specs.rules.Sum.{with_row, none, converted}
use Rattle.nutation_args.specs.notions.Computed.{computed}
use Rattle.nutation_args.specs.notions.Wrong.{elongation_is_anomaly, argument_without_node, slow_part_regrouped, sums_traded}

abbrev of_long : Sums → ℕ
of_long s = of_deg s.long

-- Ω alone enters the argument, and the longitude has a slow part of 1
abbrev row : Row
row =
    record { 0 = pos 0; 1 = pos 0; 2 = pos 0; 3 = pos 0; 4 = pos 1; 5 = pos 0; 6 = pos 1; 7 = pos 0; 8 = pos 0 }

-- Ω is 1.0 at the century 3.0
abbrev moon : Moon
moon = record { t = bits 0x4008000000000000; d = r0; m = r0; m1 = r0; f = r0; node = r1 }

pub elongation_is_anomaly_excluded : elongation_is_anomaly zero ≢ moon_of zero
unfolding computed
elongation_is_anomaly_excluded = apart (λ (a : Moon). of_rad a.d) refl

pub argument_without_node_excluded : argument_without_node row moon none ≢ with_row row moon none
unfolding computed
argument_without_node_excluded = apart of_long refl

pub slow_part_regrouped_excluded : slow_part_regrouped row moon none ≢ with_row row moon none
unfolding computed
slow_part_regrouped_excluded = apart of_long refl

pub sums_traded_excluded : sums_traded (record { long = deg one; oblq = deg zero }) ≢ converted (record { long = deg one; oblq = deg zero })
unfolding computed
sums_traded_excluded = apart (λ (n : Nutations). of_rad n.long) refl
