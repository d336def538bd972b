-- Digits brought up to 53 by their leading zeros.
use Rattle.std.specs.Prelude.{◌≡◌, ℕ, suc, ◌+◌, ◌-◌, ◌^◌, ◌<◌, ◌≤◌}
use Rattle.std.proofs.Common.{sym, ap, ◌∙◌, le_trans, le_of_eq, lt_of_lt_of_le, lt_of_not-le, not-le_of_lt, mul-le-mul_right, mul-lt-mul_of_pos_right, arith, pow-add, pow_pos, pow_mono}
use Rattle.std.specs.Int.Count.{count_leading_zeros}
use Rattle.std.proofs.lemmas.Nat.{leading_top}
use Rattle.double.specs.notions.Count.{Raised}

pub raised : (t : ℕ) → 0 < t → t < 2 ^ 53 → Raised t (count_leading_zeros 64 t)
raised t p h =
    let z = count_leading_zeros 64 t in
    let top = leading_top 64 t p (omega arith) in
    let j = top.0 in
    let e : z + suc j ≡ 64 = top.1 in
    let jl : j < 53 = lt_of_not-le (λ (g : 53 ≤ j). not-le_of_lt h (le_trans (pow_mono g) top.2)) in
    let u : j + (z - 11) ≡ 52 = omega arith in
    let u' : suc j + (z - 11) ≡ 53 = omega arith in
    record {
      eleven = omega arith;
      few = omega arith;
      least = le_trans (le_of_eq (ap (λ (x : ℕ). 2 ^ x) (sym u) ∙ pow-add 2 j (z - 11))) (mul-le-mul_right (2 ^ (z - 11)) top.2);
      most =
          lt_of_lt_of_le (mul-lt-mul_of_pos_right top.3 (pow_pos (z - 11)))
          (le_of_eq (sym (pow-add 2 (suc j) (z - 11)) ∙ ap (λ (x : ℕ). 2 ^ x) u'));
    }
