-- The arcsine of s.
use Rattle.std.specs.Prelude.{cond, Float}
use Rattle.std.specs.Float.Ieee.{lt}
use Rattle.double.specs.rules.Operations.{one, ◌⊕◌, ◌⊖◌, ◌⊗◌}
use Rattle.double.specs.rules.Sign.{size}
use Rattle.quantity.specs.declared.Rad.{Rad}
use Rattle.quantity.specs.rules.Answer.{Answer, refused, unless, then}
use Rattle.quantity.specs.rules.Refusal.{number_refusal}
use Rattle.root.specs.rules.Root.{root_rule}
use Rattle.elementary_arc.specs.rules.Arctangent.{arctangent_in}

-- what the root is taken of
abbrev pub square : Float → Float
square s = (one ⊖ s) ⊗ (one ⊕ s)

-- the arctangent of (s, root of ((1 − s)·(1 + s))); 7 where s exceeds 1 in size
unfoldable pub arcsine_in : Float → Answer Rad
arcsine_in s =
    cond (lt one (size s)) (refused 7) (then (root_rule (square s)) (λ (r : Float). arctangent_in s r))

-- called alone: 1; 7
unfoldable pub arcsine_rule : Float → Answer Rad
arcsine_rule s = unless (number_refusal s) (arcsine_in s)
