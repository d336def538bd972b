-- The arctangent as code takes it for two at once, without a branch: one quotient, one series, and what is chosen before and after.
-- `level_base` in laws/Level says that this is the base.
use Rattle.std.specs.Prelude.{cond, Float}
use Rattle.std.specs.Float.Ieee.{le}
use Rattle.double.specs.rules.Operations.{one, ◌⊕◌, ◌⊖◌, ◌⊘◌}
use Rattle.double.specs.rules.Sign.{bears_minus, negated_if, size}
use Rattle.quantity.specs.rules.Angle.{HALF, QUARTER}
use Rattle.elementary_arc.specs.declared.Arctangents.{Arctangents}
use Rattle.elementary_arc.specs.rules.Arctangent.{near, supplement_if, arctangent_of}

-- the lesser of two sizes over the greater
abbrev pub lesser_over : Float → Float → Float
lesser_over y x = cond (le y x) (y ⊘ x) (x ⊘ y)

-- what the series is taken of
abbrev pub reduced : Float → Float
reduced v = cond (le v near) v ((v ⊖ one) ⊘ (v ⊕ one))

-- the base of two sizes, from the lesser over the greater and the series
abbrev pub base_from : Float → Float → Float → Float → Float
base_from y x v a = let t = cond (le v near) a (QUARTER ⊕ a) in cond (le y x) t (HALF ⊖ t)

-- the answer, from the base
abbrev pub arc_by_signs : Float → Float → Float → Float
arc_by_signs y x b = negated_if (bears_minus y) (size (supplement_if (bears_minus x) b))

-- two arctangents side by side, each what it is alone
unfoldable pub arctangents_of : Float → Float → Float → Float → Arctangents
arctangents_of y x z w = record { first = arctangent_of y x; second = arctangent_of z w }
