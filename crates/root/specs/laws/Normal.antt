-- The square of twice a root in normal form, d·2^54·4^e with d of 53 or 54 digits, and what `root_pattern` makes of it.
use Rattle.std.specs.Prelude.{◌≡◌, ℕ, ◌+◌, ◌-◌, ◌*◌, ◌/◌, ◌%◌, ◌^◌, ◌<◌, ◌≤◌, ◌⊎◌, to_bits, Float}
use Rattle.std.proofs.Common.{sym, ◌∙◌, inl, inr, lt_of_le_of_lt, mul_assoc, mul_comm, mul_left_comm, mul-div_cancel, mul-le-mul_left, mul-le-mul_right, mul-lt-mul_of_pos_right, arith, pow-add, pow_pos, pow_mono}
use Rattle.std.proofs.Math.Path.{ap}
use Rattle.std.specs.Int.Count.{count_leading_zeros}
use Rattle.std.specs.Float.{binary64}
use Rattle.std.specs.Float.Ieee.{size}
use Rattle.std.specs.Float.Ieee.Bits.{of_bits-to_bits}
use Rattle.std.specs.Float.Ieee.Digits.{size-lt, size-le}
use Rattle.double.specs.rules.Operations.{bits}
use Rattle.double.specs.rules.Count.{IsAboveZero}
use Rattle.root.specs.rules.Nearest.{twice_root_squared}
use Rattle.root.specs.rules.Whole.{whole_root}
use Rattle.root.specs.rules.Root.{root_pattern}
use Rattle.double.specs.laws.Numbers.{less_or_not, pow_lt_back}
use Rattle.double.specs.laws.Patterns.{count_low, count_high, above_zero_pattern}
use Rattle.double.specs.laws.Raised.{raised}
use Rattle.double.specs.notions.Count.{Raised}
use Rattle.root.specs.notions.Steps.{Normal}

-- ---- the exponent's half: an odd two goes to the digits

pub normal : (d e : ℕ) → 2 ^ 52 ≤ d → d < 2 ^ 53 → e < 3068 → Normal (d * 2 ^ (e + 54)) (d * 2 ^ (e % 2)) (e / 2)
normal d e lo hi h =
    let k = e / 2 in
    let once : 2 ^ (e % 2) ≤ 2 ^ 1 = pow_mono {i = e % 2} {j = 1} (omega arith) in
    let least : d * 1 ≤ d * 2 ^ (e % 2) = mul-le-mul_left d (pow_pos (e % 2)) in
    let most : d * 2 ^ (e % 2) ≤ d * 2 = mul-le-mul_left d once in
    record {
      is =
          ap (λ (x : ℕ). d * 2 ^ x) (omega arith)
          ∙ ap (λ (x : ℕ). d * x) (pow-add 2 (e % 2) (54 + 2 * k))
          ∙ sym (mul_assoc d (2 ^ (e % 2)) (2 ^ (54 + 2 * k)))
          ∙ ap (λ (x : ℕ). d * 2 ^ (e % 2) * x) (pow-add 2 54 (2 * k))
          ∙ sym (mul_assoc (d * 2 ^ (e % 2)) (2 ^ 54) (2 ^ (2 * k)));
      least = omega arith;
      most = omega arith;
      room = omega arith;
    }

-- ---- what the digits and the exponent of a pattern b stand for

low_square : (b z : ℕ) → b < 2 ^ 52 → Raised b z → b * 2 ^ (z - 11) * 2 ^ (1022 - (z - 11) + 54) ≡ twice_root_squared (bits b)
low_square b z h r =
    join b (z - 11) (1022 - (z - 11) + 54) 1076 (omega (arith, r.few)) ∙ ap (λ (x : ℕ). 2 ^ 1076 * x) (sym (count_low b h))
  where
    join : (d i j k : ℕ) → i + j ≡ k → d * 2 ^ i * 2 ^ j ≡ 2 ^ k * d
    join d i j k e =
        mul_assoc d (2 ^ i) (2 ^ j) ∙ ap (λ (x : ℕ). d * x) (sym (pow-add 2 i j) ∙ ap (λ (x : ℕ). 2 ^ x) e)
        ∙ mul_comm d (2 ^ k)

-- a subnormal: its digits brought up by their leading zeros are 53, and with the exponent down by as many they stand for the same
pub brought_up : (b : ℕ) → 0 < b → b < 2 ^ 52
    → Raised b (count_leading_zeros 64 b) × (b * 2 ^ (count_leading_zeros 64 b - 11) * 2 ^ (1022 - (count_leading_zeros 64 b - 11) + 54) ≡ twice_root_squared (bits b))
brought_up b p h = let r = raised b p (omega arith) in (r, low_square b (count_leading_zeros 64 b) h r)

pub high_square : (b : ℕ) → 2 ^ 52 ≤ b → b < 2047 * 2 ^ 52
    → (2 ^ 52 + b % 2 ^ 52) * 2 ^ (b / 2 ^ 52 + 1021 + 54) ≡ twice_root_squared (bits b)
high_square b l h =
    let x = b / 2 ^ 52 in
    let d = 2 ^ 52 + b % 2 ^ 52 in
    ap (λ (k : ℕ). d * 2 ^ k) (split x (omega arith))
    ∙ ap (λ (y : ℕ). d * y) (pow-add 2 1076 (x - 1))
    ∙ mul_left_comm d (2 ^ 1076) (2 ^ (x - 1))
    ∙ ap (λ (y : ℕ). 2 ^ 1076 * y) (sym (count_high b l h))
  where
    split : (x : ℕ) → 0 < x → x + 1021 + 54 ≡ 1076 + (x - 1)
    split x n = omega arith

-- digits and exponent in one number, as code hands them on: the digits' leading one is not in it
pub handed_on : (p d e : ℕ) {r : ℕ} → r ≡ root_pattern ((2 ^ 52 + p % 2 ^ 52) * 2 ^ (p / 2 ^ 52 + 54)) → p + 2 ^ 52 ≡ e * 2 ^ 52 + d
    → 2 ^ 52 ≤ d → d < 2 ^ 53 → r ≡ root_pattern (d * 2 ^ (e + 54))
handed_on p d e is parts lo hi =
    let digits : 2 ^ 52 + p % 2 ^ 52 ≡ d = omega arith in
    let field : p / 2 ^ 52 ≡ e = omega arith in
    rw (digits, field) at is

-- every finite double above zero has the form
has_normal : (b : ℕ) → 0 < b → b < 2047 * 2 ^ 52 → (d : ℕ) × (e : ℕ) × Normal (twice_root_squared (bits b)) d e
has_normal b p h = go (less_or_not b (2 ^ 52))
  where
    go : (b < 2 ^ 52) ⊎ (2 ^ 52 ≤ b) → (d : ℕ) × (e : ℕ) × Normal (twice_root_squared (bits b)) d e
    go (inl l) =
        let z = count_leading_zeros 64 b in
        let r : Raised b z = raised b p (omega arith) in
        let n = normal (b * 2 ^ (z - 11)) (1022 - (z - 11)) r.least r.most (omega arith) in
        (_, _, rw (low_square b z l r) at n)
    go (inr l) =
        let n = normal (2 ^ 52 + b % 2 ^ 52) (b / 2 ^ 52 + 1021) (omega arith) (omega arith) (omega arith) in
        (_, _, rw (high_square b l h) at n)

pub above_zero_normal : (x : Float) → IsAboveZero x → (d : ℕ) × (e : ℕ) × Normal (twice_root_squared x) d e
above_zero_normal x a =
    let p = above_zero_pattern x a in
    rw (of_bits-to_bits binary64 x a.held) at (has_normal (to_bits binary64 x) p.0 p.1)

-- ---- the pattern

module _ {w d e : ℕ} (n : Normal w d e) where
  halvings : (size w - 107) / 2 ≡ e
  halvings =
      let p = 2 ^ (2 * e) in
      let lo : 2 ^ 106 * p ≤ w = rw n.is (mul-le-mul_right p (mul-le-mul_right (2 ^ 54) n.least)) in
      let under : d * 2 ^ 54 < 2 ^ 108 = omega (arith, n.most) in
      let hi : w < 2 ^ 108 * p = rw n.is (mul-lt-mul_of_pos_right under (pow_pos (2 * e))) in
      let most : size w ≤ 108 + 2 * e = size-le w (108 + 2 * e) (rw (pow-add 2 108 (2 * e)) hi) in
      let least : 106 + 2 * e < size w = pow_lt_back (106 + 2 * e) (size w) (lt_of_le_of_lt (rw (pow-add 2 106 (2 * e)) lo) (size-lt w)) in
      omega arith

  pub pattern_is : root_pattern w ≡ e * 2 ^ 52 + (whole_root 54 (d * 2 ^ 54) + 1) / 2
  unfolding root_pattern
  pattern_is =
      ap (λ (k : ℕ). k * 2 ^ 52 + (whole_root 54 (w / 2 ^ (2 * k)) + 1) / 2) halvings
      ∙ ap (λ (x : ℕ). e * 2 ^ 52 + (whole_root 54 x + 1) / 2) (rw n.is (mul-div_cancel (d * 2 ^ 54) (pow_pos (2 * e))))
