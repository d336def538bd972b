-- The bits of a root.
use Rattle.std.specs.Prelude.{◌≡◌, ℕ, Float, Result, Ok, Err}
use Rattle.std.proofs.Common.{sym, ap, ◌∙◌}
use Rattle.double.specs.rules.Pattern.{pattern_of}
use Rattle.double.specs.laws.ReadBack.{pattern_bits}
use Rattle.quantity.specs.declared.Refusal.{Refusal}
use Rattle.quantity.specs.rules.Answer.{Answer, answered, refused, number, shown, with}
use Rattle.root.specs.rules.Nearest.{twice_root_squared}
use Rattle.root.specs.rules.Root.{root_pattern, root_of, root_rule}
use Rattle.root.specs.notions.Steps.{IsNormal}
use Rattle.root.specs.laws.Normal.{above_zero_normal}
use Rattle.root.specs.laws.Nearest.{pattern_finite}
use Rattle.root.specs.laws.Root.{root_answered}

pub normal_bits_answered : (x : Float) → IsNormal x → answered (root_pattern (twice_root_squared x)) ≡ with pattern_of (root_rule x)
unfolding root_of
normal_bits_answered x n =
    sym
    (ap (with pattern_of) (root_answered x n.above.finite n.plus)
    ∙ ap (λ (y : Float). answered (pattern_of y)) (rw (n.above.above, n.above.finite))
    ∙ ap answered (pattern_bits _ (pattern_finite (above_zero_normal x n.above).2)))

-- each case of an answer
pub bits_answered : {r : Result Float Refusal} {a : Answer Float} {y : Float} {b : ℕ}
    → shown r ≡ a → r ≡ Ok y → b ≡ pattern_of y → answered b ≡ with pattern_of a
bits_answered p e q = rw (← p, e) (ap answered q)

pub bits_refused : {r : Result Float Refusal} {a : Answer Float} {n : Refusal} → shown r ≡ a → r ≡ Err n
    → refused (number n) ≡ with pattern_of a
bits_refused p e = rw (← p, e)
