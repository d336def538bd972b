-- The arctangent is odd in its first argument, and the arcsine odd, on every double.
use Rattle.std.specs.Prelude.{◌≡◌, refl, Bool, true, false, cond, Float}
use Rattle.std.proofs.Common.{ap}
use Rattle.std.specs.Float.{nan, binary64}
use Rattle.std.specs.Float.Ieee.{neg, add, sub, mul, div, le, lt, of_bits}
use Rattle.double.specs.rules.Operations.{one, ◌⊕◌, ◌⊖◌, ◌⊗◌}
use Rattle.double.specs.rules.Sign.{bears_minus, size}
use Rattle.double.specs.laws.Sign.{size_neg, sign_neg}
use Rattle.double.specs.laws.Zero.{zero_neg}
use Rattle.double.specs.laws.Mirror.{mul_comm, sub_neg_r, add_neg_r, sub_nan, div_nan}
use Rattle.quantity.specs.rules.Angle.{rad, PI, HALF, opposite}
use Rattle.quantity.specs.rules.Answer.{Answer, answered, refused, with, then}
use Rattle.root.specs.rules.Root.{root_rule}
use Rattle.elementary_arc.specs.rules.Arctangent.{atn, base, supplement_if, arctangent_of, both_zero, arctangent_in}
use Rattle.elementary_arc.specs.rules.Arcsine.{arcsine_in}

-- ---- a NaN has no sign, and each function answers one with one

pub atn_nan : atn nan ≡ nan
unfolding le add sub mul div of_bits
atn_nan = refl

pub base_nan : (x : Float) → base nan x ≡ nan
unfolding le
base_nan x = rw (div_nan binary64 x, atn_nan, sub_nan binary64 HALF)

pub supplement_nan : (s : Bool) → supplement_if s nan ≡ nan
supplement_nan true = sub_nan binary64 PI
supplement_nan false = refl

-- ---- the mirrors

pub arctangent_odd : (y x : Float) → arctangent_of (neg y) x ≡ opposite (arctangent_of y x)
unfolding arctangent_of size
arctangent_odd y x =
    rw (size_neg y) (ap rad
    (sign_neg y (size (supplement_if (bears_minus x) (base (size y) (size x))))
    (λ e. rw (e, base_nan (size x), supplement_nan (bears_minus x)))))

pub arctangent_in_odd : (y x : Float) → arctangent_in (neg y) x ≡ with opposite (arctangent_in y x)
unfolding arctangent_in
arctangent_in_odd y x = rw (zero_neg y, arctangent_odd y x) (by_case (both_zero y x))
  where
    by_case : (b : Bool)
        → cond b (refused 14) (answered (opposite (arctangent_of y x))) ≡ with opposite (cond b (refused 14) (answered (arctangent_of y x)))
    by_case true = refl
    by_case false = refl

pub arcsine_in_odd : (s : Float) → arcsine_in (neg s) ≡ with opposite (arcsine_in s)
unfolding arcsine_in then
arcsine_in_odd s =
    rw (size_neg s, sub_neg_r binary64 one s, add_neg_r binary64 one s, mul_comm binary64 (one ⊕ s) (one ⊖ s))
    (by_case (lt one (size s)))
  where
    by-root : (a : Answer Float) → then a (λ (r : Float). arctangent_in (neg s) r) ≡ with opposite (then a (λ (r : Float). arctangent_in s r))
    by-root (answered r) = arctangent_in_odd s r
    by-root (refused n) = refl

    by_case : (b : Bool)
        → cond b (refused 7) (then (root_rule ((one ⊖ s) ⊗ (one ⊕ s))) (λ (r : Float). arctangent_in (neg s) r)) ≡ with opposite (cond b (refused 7) (then (root_rule ((one ⊖ s) ⊗ (one ⊕ s))) (λ (r : Float). arctangent_in s r)))
    by_case true = refl
    by_case false = by-root (root_rule ((one ⊖ s) ⊗ (one ⊕ s)))
