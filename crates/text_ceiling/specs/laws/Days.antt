-- The days of the 41 lines have the centuries −20 to 20, exactly, and none is refused.
use Rattle.std.specs.Prelude.{ℕ, zero, suc, ◌<◌, ◌≡◌, refl, cond, List, [], ◌∷◌, Float}
use Rattle.std.proofs.Common.{ap, ◌∙◌, subst, inl, inr, arith}
use Rattle.std.specs.Float.Ieee.{neg, add, sub, mul, div, le, of_bits, of_int, round}
use Rattle.double.specs.rules.Sign.{is_finite, size}
use Rattle.double.specs.laws.Numbers.{less_or_not}
use Rattle.double.specs.rules.Whole.{from_whole}
use Rattle.quantity.specs.rules.Answer.{answered, pair, unless}
use Rattle.quantity.specs.rules.Refusal.{day_refusal}
use Rattle.helpers.specs.rules.Time.{century_of}
use Rattle.nutation_ceiling.specs.rules.Ceiling.{ceiling_at, ceiling_of, nutation_ceiling_rule}
use Rattle.text_ceiling.specs.rules.Text.{is_before, size_at, day_at}

abbrev each : {A : Type 0} → ℕ → (ℕ → A) → List A
each zero f = []
each (suc n) f = f n ∷ each n f

-- i − 20
abbrev pub century : ℕ → Float
century i = cond (is_before i) (neg (from_whole (size_at i))) (from_whole (size_at i))

centuries : each 41 (λ (i : ℕ). century_of (day_at i)) ≡ each 41 century
unfolding size_at day_at neg add sub mul div of_bits of_int round
centuries = refl

accepted : each 41 (λ (i : ℕ). day_refusal (day_at i)) ≡ each 41 (λ (i : ℕ). 0)
unfolding day_refusal size_at day_at is_finite size le neg add sub mul div of_bits of_int round
accepted = refl

each_same : {A : Type 0} (n : ℕ) (f g : ℕ → A) → each n f ≡ each n g → (i : ℕ) → i < n → f i ≡ g i
each_same zero f g e i h = absurd (omega arith)
each_same (suc n) f g e i h =
    elim (less_or_not i n) [
      | inl k ↦ each_same n f g (let t : each n f ≡ each n g = cc in t) i k
      | inr k ↦ let here : f n ≡ g n = cc in let at : n ≡ i = omega arith in subst (λ (j : ℕ). f j ≡ g j) at here
    ]

pub century_exact : (i : ℕ) → i < 41 → century_of (day_at i) ≡ century i
century_exact = each_same 41 (λ (i : ℕ). century_of (day_at i)) century centuries

pub day_accepted : (i : ℕ) → i < 41 → day_refusal (day_at i) ≡ 0
day_accepted = each_same 41 (λ (i : ℕ). day_refusal (day_at i)) (λ (i : ℕ). 0) accepted

-- so that line i has the ceiling of its century
pub line_figures : (i : ℕ) → i < 41
    → nutation_ceiling_rule (day_at i) ≡ answered (pair (ceiling_at (century i)).long.0 (ceiling_at (century i)).oblq.0)
unfolding nutation_ceiling_rule
line_figures i h =
    ap (λ (n : ℕ). unless n (answered (pair (ceiling_of (day_at i)).long.0 (ceiling_of (day_at i)).oblq.0))) (day_accepted i h)
    ∙ ap (λ (t : Float). answered (pair (ceiling_at t).long.0 (ceiling_at t).oblq.0)) (century_exact i h)
