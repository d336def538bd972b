-- One row's shares, and the sums over a list of rows in its order.
use Rattle.std.specs.Prelude.{List, [], ◌∷◌, ℤ, Float}
use Rattle.std.specs.Float.{binary64}
use Rattle.std.specs.Float.Ieee.{of_int}
use Rattle.double.specs.rules.Operations.{bits, zero, ◌⊕◌, ◌⊗◌, ◌⊘◌}
use Rattle.quantity.specs.declared.Deg.{Deg}
use Rattle.quantity.specs.declared.Rad.{Rad}
use Rattle.quantity.specs.rules.Angle.{deg, rad}
use Rattle.elementary.specs.rules.Sine.{sine_of, cosine_of}
use Rattle.helpers.specs.rules.Angle.{radians_of}
use Rattle.nutation_args.specs.declared.Row.{Row}
use Rattle.nutation_args.specs.declared.Moon.{Moon}
use Rattle.nutation_args.specs.declared.Sums.{Sums}
use Rattle.nutation_args.specs.declared.Nutations.{Nutations}
use Rattle.nutation_args.specs.rules.Numbers.{n10}

-- a whole number of the table
abbrev pub whole : ℤ → Float
whole z = of_int binary64 z

abbrev pub argument_of : Row → Moon → Rad
argument_of x a =
    rad
    (whole x.0 ⊗ a.d.0 ⊕ whole x.1 ⊗ a.m.0 ⊕ whole x.2 ⊗ a.m1.0 ⊕ whole x.3 ⊗ a.f.0 ⊕ whole x.4 ⊗ a.node.0)

-- 0.0001/3600
abbrev pub unit : Float
unit = bits 0x3e5dd37f5698c2c3

-- (c + (t·d)/10)·v: c is a coefficient, d its slow part, v the sine or cosine
abbrev pub share : Float → Float → Float → Float → Deg
share c d v t = deg ((c ⊕ t ⊗ d ⊘ n10) ⊗ v ⊗ unit)

abbrev pub long_share : Row → Float → Float → Deg
long_share x t sine = share (whole x.5) (whole x.6) sine t

abbrev pub oblq_share : Row → Float → Float → Deg
oblq_share x t cosine = share (whole x.7) (whole x.8) cosine t

unfoldable pub with_row : Row → Moon → Sums → Sums
with_row x a s =
    record {
      long = deg (s.long.0 ⊕ (long_share x a.t (sine_of (argument_of x a))).0);
      oblq = deg (s.oblq.0 ⊕ (oblq_share x a.t (cosine_of (argument_of x a))).0);
    }

unfoldable pub summed : List Row → Moon → Sums → Sums
summed [] a s = s
summed (x ∷ xs) a s = summed xs a (with_row x a s)

abbrev pub none : Sums
none = record { long = deg zero; oblq = deg zero }

-- both sums from degrees to radians
unfoldable pub converted : Sums → Nutations
converted s = record { long = radians_of s.long; oblq = radians_of s.oblq }
