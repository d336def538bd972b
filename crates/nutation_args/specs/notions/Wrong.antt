-- Wrong variants of the arguments of nutation, of a row and of the sums.
use Rattle.std.specs.Prelude.{Float}
use Rattle.double.specs.rules.Operations.{◌⊕◌, ◌⊗◌, ◌⊘◌}
use Rattle.quantity.specs.declared.Deg.{Deg}
use Rattle.quantity.specs.declared.Rad.{Rad}
use Rattle.quantity.specs.rules.Angle.{deg, rad}
use Rattle.elementary.specs.rules.Sine.{sine_of, cosine_of}
use Rattle.helpers.specs.rules.Angle.{radians_of}
use Rattle.nutation_args.specs.declared.Row.{Row}
use Rattle.nutation_args.specs.declared.Moon.{Moon}
use Rattle.nutation_args.specs.declared.Sums.{Sums}
use Rattle.nutation_args.specs.declared.Nutations.{Nutations}
use Rattle.nutation_args.specs.rules.Numbers.{n10}
use Rattle.nutation_args.specs.rules.Arguments.{moon_m1, sun_m, moon_f, moon_node, in_turn, moon_from}
use Rattle.nutation_args.specs.rules.Sum.{whole, argument_of, unit, long_share, oblq_share, converted}

-- M in the place of D
abbrev pub elongation_is_anomaly : Float → Moon
elongation_is_anomaly t =
    moon_from t (in_turn (sun_m t)) (in_turn (sun_m t)) (in_turn (moon_m1 t)) (in_turn (moon_f t)) (in_turn (moon_node t))

-- a row with another argument, and another share of the longitude
abbrev row_by : (Row → Moon → Rad) → (Row → Float → Float → Deg) → Row → Moon → Sums → Sums
row_by argument share x a s =
    record {
      long = deg (s.long.0 ⊕ (share x a.t (sine_of (argument x a))).0);
      oblq = deg (s.oblq.0 ⊕ (oblq_share x a.t (cosine_of (argument x a))).0);
    }

-- F in the place of Ω
abbrev pub argument_without_node : Row → Moon → Sums → Sums
argument_without_node =
    row_by
    (λ (x : Row) (a : Moon). rad (whole x.0 ⊗ a.d.0 ⊕ whole x.1 ⊗ a.m.0 ⊕ whole x.2 ⊗ a.m1.0 ⊕ whole x.3 ⊗ a.f.0 ⊕ whole x.4 ⊗ a.f.0))
    long_share

-- t·(d/10)
abbrev pub slow_part_regrouped : Row → Moon → Sums → Sums
slow_part_regrouped =
    row_by argument_of
    (λ (x : Row) (t sine : Float). deg ((whole x.5 ⊕ t ⊗ (whole x.6 ⊘ n10)) ⊗ sine ⊗ unit))

-- the longitude from the obliquity's sum
abbrev pub sums_traded : Sums → Nutations
sums_traded s = record { long = radians_of s.oblq; oblq = (converted s).oblq }
