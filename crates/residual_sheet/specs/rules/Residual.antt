-- A residual: computed less measured angle, in whole milliarcseconds.
use Rattle.std.specs.Prelude.{ℕ, Bool, cond, ltb, ℤ, pos, neg_ℤ, Float}
use Rattle.std.specs.Float.Ieee.{lt}
use Rattle.double.specs.rules.Operations.{◌⊖◌}
use Rattle.double.specs.rules.Sign.{size}
use Rattle.quantity.specs.declared.Rad.{Rad}
use Rattle.quantity.specs.rules.Angle.{PI, rad}
use Rattle.units.specs.rules.Degrees.{to_degrees, milliarcseconds}
use Rattle.units.specs.rules.Nearest.{nearest_whole, has_minus}
use Rattle.helpers.specs.rules.Angle.{turn_in_radians, within_two_PI}
use Rattle.residual_sheet.specs.declared.Residual.{Residual}

-- computed less measured angle
abbrev pub difference : Rad → Rad → Rad
difference computed measured = rad (computed.0 ⊖ measured.0)

-- 2·PI taken from what exceeds PI
unfoldable pub taken_back : Rad → Rad
taken_back x = cond (lt PI x.0) (rad (x.0 ⊖ turn_in_radians)) x

-- in right ascension the difference passes through `limit_to_two_PI`, and 2·PI is taken from it where it exceeds PI
unfoldable pub across_turn : Rad → Rad
across_turn x = taken_back (within_two_PI x)

-- times the double 180/PI, then times 3600000
abbrev pub unrounded : Rad → Float
unrounded x = milliarcseconds (to_degrees x)

-- to the nearest whole number, halves away from zero
unfoldable pub rounded : Float → Residual
rounded y =
    let n = nearest_whole (size y) in
    record { minus = has_minus y n; size = n }

unfoldable pub in_milliarcseconds : Rad → Residual
in_milliarcseconds x = rounded (unrounded x)

-- of a right ascension, which is taken across the turn, or of a declination
unfoldable pub residual_of : Bool → Rad → Rad → Residual
residual_of across computed measured =
    cond across (in_milliarcseconds (across_turn (difference computed measured))) (in_milliarcseconds (difference computed measured))

-- a residual as one whole number
abbrev pub whole_of : Residual → ℤ
whole_of x = cond x.minus (neg_ℤ (pos x.size)) (pos x.size)

-- above this size, once rounded, a residual is set aside
abbrev pub farthest_taken : ℕ
farthest_taken = 1000000

abbrev pub is_aside : Residual → Bool
is_aside x = ltb farthest_taken x.size
