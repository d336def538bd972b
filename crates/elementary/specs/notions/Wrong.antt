-- Wrong variants of sine, cosine and tangent.
use Rattle.std.specs.Prelude.{cond, eqb, Float}
use Rattle.std.specs.Float.Ieee.{neg}
use Rattle.double.specs.rules.Operations.{bits, one, ◌⊕◌, ◌⊖◌, ◌⊗◌, ◌⊘◌}
use Rattle.double.specs.rules.Sign.{size}
use Rattle.double.specs.rules.Whole.{from_whole}
use Rattle.quantity.specs.declared.Rad.{Rad}
use Rattle.quantity.specs.declared.EqPoint.{EqPoint}
use Rattle.quantity.specs.rules.Answer.{Answer, answered, unless}
use Rattle.quantity.specs.rules.Refusal.{past, lower}
use Rattle.elementary.specs.declared.Folded.{Folded}
use Rattle.elementary.specs.declared.SinCos.{SinCos}
use Rattle.elementary.specs.declared.TwoSinCos.{TwoSinCos}
use Rattle.elementary.specs.declared.Direction.{Direction}
use Rattle.elementary.specs.declared.Directions.{Directions}
use Rattle.elementary.specs.rules.Fold.{P1, P2, quarters, fold}
use Rattle.elementary.specs.rules.Series.{horner, sine_last, sine_entries}
use Rattle.elementary.specs.rules.Sine.{cosine_quarter, folded_sine, sine_of, cosine_of, tangent_of, two_sin_cos_of, farthest_alone, alone_refusal, tangent_refusal}
use Rattle.elementary.specs.rules.Direction.{direction_of, directions_of}

-- called alone, with another value
abbrev alone : (Rad → Float) → Rad → Answer Float
alone value x = unless (alone_refusal x) (answered (value x))

-- 3 from one double further on
abbrev pub alone_limit_off_by_one_double : Rad → Answer Float
alone_limit_off_by_one_double x = unless (past x.0 (bits 0x41186a0000000001) 3) (answered (sine_of x))

-- an angle folded, with another rest
abbrev folded_to : (Float → Float) → Rad → Folded
folded_to rest x = let f = fold x in record { minus = f.minus; quarter = f.quarter; rest = rest (size x.0) }

-- r = (a − k·P1) − k·P2
abbrev pub fold_without_p3 : Rad → Answer Float
fold_without_p3 =
    alone
    (λ (x : Rad).
    folded_sine
    (folded_to (λ (a : Float). let k = from_whole (quarters a) in (a ⊖ k ⊗ P1) ⊖ k ⊗ P2) x))

-- S(r) as r + r·(z·p), in the first quarter
abbrev pub sine_regrouped : Rad → Answer Float
sine_regrouped =
    alone (λ (x : Rad). let r = (fold x).rest in let z = r ⊗ r in r ⊕ r ⊗ (z ⊗ horner z sine_last sine_entries))

abbrev pub cosine_answers_sine : Rad → Answer Float
cosine_answers_sine = alone sine_of

abbrev pub cosine_of_the_opposite_rest : Rad → Answer Float
cosine_of_the_opposite_rest = alone (λ (x : Rad). cosine_quarter (fold x).quarter (neg (fold x).rest))

-- not refused past 1.57
abbrev pub tangent_not_steep : Rad → Answer Float
tangent_not_steep x = unless (lower (alone_refusal x) (past x.0 farthest_alone 4)) (answered (tangent_of x))

abbrev pub tangent_upside_down : Rad → Answer Float
tangent_upside_down x = unless (tangent_refusal x) (answered (one ⊘ tangent_of x))

-- the cosine of the second quarter
abbrev pub sin_cos_the_other_way : Rad → SinCos
sin_cos_the_other_way x =
    record { sine = sine_of x; cosine = cond (eqb (fold x).quarter 1) (neg (cosine_of x)) (cosine_of x) }

-- the declination's cosine for its sine
abbrev pub direction_traded : EqPoint → Direction
direction_traded p =
    let d = direction_of p in
    record { sin_asc = d.sin_asc; cos_asc = d.cos_asc; sin_dec = d.cos_dec; cos_dec = d.cos_dec }

-- two angles, or two points, each in the other's lane
abbrev pub two_sin_cos_traded : Rad → Rad → TwoSinCos
two_sin_cos_traded x y = two_sin_cos_of y x

abbrev pub directions_traded : EqPoint → EqPoint → Directions
directions_traded p q = directions_of q p

-- the first in both
abbrev pub first_sin_cos_twice : Rad → Rad → TwoSinCos
first_sin_cos_twice x y = two_sin_cos_of x x
