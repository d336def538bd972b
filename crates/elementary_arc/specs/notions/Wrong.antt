-- Wrong variants of arctangent and arcsine.
use Rattle.std.specs.Prelude.{Float, Bool, not, ◌&&◌, cond}
use Rattle.std.specs.Float.Ieee.{eq, lt}
use Rattle.double.specs.rules.Operations.{bits, zero, one, ◌⊕◌, ◌⊖◌, ◌⊗◌, ◌⊘◌}
use Rattle.double.specs.rules.Sign.{bears_minus, negated_if, size}
use Rattle.quantity.specs.declared.Rad.{Rad}
use Rattle.quantity.specs.rules.Angle.{rad, HALF}
use Rattle.quantity.specs.rules.Answer.{Answer, answered, refused, unless, then}
use Rattle.quantity.specs.rules.Refusal.{number_refusal}
use Rattle.root.specs.rules.Root.{root_rule}
use Rattle.elementary_arc.specs.rules.Arctangent.{base, supplement_if, arctangent_of, both_zero, arctangent_in, arctangent_refusal}
use Rattle.elementary_arc.specs.declared.Arctangents.{Arctangents}
use Rattle.elementary_arc.specs.rules.Level.{arctangents_of}
use Rattle.elementary_arc.specs.rules.Arcsine.{arcsine_in}

-- called alone, with another angle
abbrev alone : (Float → Float → Float) → Float → Float → Answer Rad
alone angle y x = unless (arctangent_refusal y x) (answered (rad (angle y x)))

-- of the ratio: the quadrant is lost
abbrev pub one_argument : Float → Float → Answer Rad
one_argument = alone (λ (y x : Float). negated_if (bears_minus (y ⊘ x)) (base (size y) (size x)))

-- −0 taken as +0
abbrev pub minus_zero_is_plus : Float → Float → Answer Rad
minus_zero_is_plus = alone (λ (y x : Float). negated_if (lt y zero) (size (supplement_if (bears_minus x) (base (size y) (size x)))))

-- no supplement where x bears a minus sign
abbrev pub behind_is_ahead : Float → Float → Answer Rad
behind_is_ahead = alone (λ (y x : Float). negated_if (bears_minus y) (base (size y) (size x)))

-- called alone, with another test for 14
abbrev refused_where : (Float → Float → Bool) → Float → Float → Answer Rad
refused_where zeros y x = unless (arctangent_refusal y x) (cond (zeros y x) (refused 14) (answered (arctangent_of y x)))

abbrev is_plus_zero : Float → Bool
is_plus_zero x = eq x zero && not (bears_minus x)

-- only (+0, +0) refused
abbrev pub only_plus_zeros_refused : Float → Float → Answer Rad
only_plus_zeros_refused = refused_where (λ (y x : Float). is_plus_zero y && is_plus_zero x)

-- −0 not seen as zero in the second argument
abbrev pub minus_zero_not_seen : Float → Float → Answer Rad
minus_zero_not_seen = refused_where (λ (y x : Float). eq y zero && is_plus_zero x)

-- both zero answered by 0 or half a turn
abbrev pub zeros_answered : Float → Float → Answer Rad
zeros_answered y x =
    unless (arctangent_refusal y x)
    (cond (both_zero y x) (answered (rad (negated_if (bears_minus y) (supplement_if (bears_minus x) zero)))) (arctangent_in y x))

-- the second argument not tested
abbrev pub arctangent_lets_infinity_in : Float → Float → Answer Rad
arctangent_lets_infinity_in y x = unless (number_refusal y) (arctangent_in y x)

-- the arctangent of (s, root of r)
abbrev with_root : Float → Float → Answer Rad
with_root s r = then (root_rule r) (λ (c : Float). arctangent_in s c)

-- clamped where s exceeds 1
abbrev pub arcsine_clamped : Float → Answer Rad
arcsine_clamped s =
    unless (number_refusal s) (cond (lt one (size s)) (answered (rad HALF)) (with_root s ((one ⊖ s) ⊗ (one ⊕ s))))

-- 7 from one double further on
abbrev pub arcsine_limit_off : Float → Answer Rad
arcsine_limit_off s =
    unless (number_refusal s)
    (cond (lt (bits 0x3ff0000000000001) (size s)) (refused 7) (with_root s ((one ⊖ s) ⊗ (one ⊕ s))))

-- 1 − s·s
abbrev pub arcsine_root_regrouped : Float → Answer Rad
arcsine_root_regrouped s =
    unless (number_refusal s) (cond (lt one (size s)) (refused 7) (with_root s (one ⊖ s ⊗ s)))

-- not tested
abbrev pub arcsine_lets_infinity_in : Float → Answer Rad
arcsine_lets_infinity_in s = arcsine_in s

-- two arctangents, each in the other's lane
abbrev pub arctangents_traded : Float → Float → Float → Float → Arctangents
arctangents_traded y x z w = arctangents_of z w y x

-- always the first over the second
abbrev pub first_over : Float → Float → Float
first_over y x = y ⊘ x

-- never reduced
abbrev pub not_reduced : Float → Float
not_reduced v = v
