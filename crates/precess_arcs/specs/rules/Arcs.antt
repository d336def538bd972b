-- The arcs of places, as code takes them two at a time: the refusal of each, and both with every float fixed whatever is refused.
-- `arcs_by_tests` in laws/Arcs says that each place has those of its arctangent and its arcsine.
use Rattle.std.specs.Prelude.{ℕ, ⊤, cond, Float, Result, Ok, Err}
use Rattle.std.specs.Float.Ieee.{le, lt}
use Rattle.double.specs.rules.Operations.{one}
use Rattle.double.specs.rules.Sign.{size}
use Rattle.quantity.specs.declared.Refusal.{Refusal}
use Rattle.quantity.specs.declared.Refusal.TheVariants as refusal
use Rattle.elementary_arc.specs.rules.Arctangent.{both_zero, arctangent_of}
use Rattle.precess_arcs.specs.declared.TwoArcs.{TwoArcs}

-- 14 where there is no direction; 7 past 1 in size, 1 of a NaN
unfoldable pub arcs_refusal : Float → Float → Float → ℕ
arcs_refusal up across height =
    cond (both_zero up across) 14
    (cond (le (size height) one) 0 (cond (lt one (size height)) 7 1))

-- the same as a check in code (`arcs_checked` in laws/Arcs)
unfoldable pub arcs_check : Float → Float → Float → Result ⊤ Refusal
arcs_check up across height =
    cond (both_zero up across) (Err refusal.NoDirection)
    (cond (le (size height) one) (Ok tt) (cond (lt one (size height)) (Err refusal.Arcsine) (Err refusal.NotFinite)))

-- each by its height and the root by which the arcsine of that is an arctangent
unfoldable pub arcs_two : Float → Float → Float → Float → Float → Float → Float → Float → TwoArcs
arcs_two up across height root up2 across2 height2 root2 =
    record {
      first_asc = (arctangent_of up across).0;
      second_asc = (arctangent_of up2 across2).0;
      first_dec = (arctangent_of height root).0;
      second_dec = (arctangent_of height2 root2).0;
    }
