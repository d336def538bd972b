-- What the digits and places of a pattern count, and which pattern counts a number of 53 digits and its places.
use Rattle.std.specs.Prelude.{◌≡◌, ◌⊎◌, ℕ, ◌+◌, ◌-◌, ◌*◌, ◌/◌, ◌%◌, ◌^◌, ◌≤◌, ◌<◌}
use Rattle.std.proofs.Common.{sym, ap, ◌∙◌, inl, inr, le_trans, le_of_eq, lt_of_lt_of_le, lt_of_le_of_lt, eq-or-lt_of_le, mul-one, mul_assoc, mul-le-mul_left, mul-le-mul_right, mul-lt-mul_of_pos_right, arith, lt-ltb, le-ltb, pow-add, pow_pos, pow_mono}
use Rattle.std.proofs.Math.Nat.{pow-succ'}
use Rattle.double.specs.rules.Operations.{bits}
use Rattle.double.specs.rules.Count.{count}
use Rattle.double.specs.laws.Numbers.{less_or_not}
use Rattle.double.specs.laws.Patterns.{count_low, count_high}
use Rattle.remainder.specs.rules.Digits.{digits_of, binary_places_of}
use Rattle.remainder.specs.notions.Steps.{Counted}
use Rattle.remainder.specs.laws.Whole.{rest_lowered}

-- ---- of a pattern

pub digits_low : (b : ℕ) → b < 2 ^ 52 → digits_of b ≡ b
unfolding digits_of
digits_low b h = rw (lt-ltb b (2 ^ 52) h)

pub digits_high : (b : ℕ) → 2 ^ 52 ≤ b → digits_of b ≡ 2 ^ 52 + b % 2 ^ 52
unfolding digits_of
digits_high b h = rw (le-ltb b (2 ^ 52) h)

pub binary_places_low : (b : ℕ) → b < 2 ^ 52 → binary_places_of b ≡ 0
unfolding binary_places_of
binary_places_low b h = omega arith

pub binary_places_high : (b : ℕ) → binary_places_of b ≡ b / 2 ^ 52 - 1
unfolding binary_places_of
binary_places_high b = omega arith

pub counted : (b : ℕ) → b < 2047 * 2 ^ 52 → Counted b
unfolding binary_places_of
counted b h = go (less_or_not b (2 ^ 52))
  where
    go : (b < 2 ^ 52) ⊎ (2 ^ 52 ≤ b) → Counted b
    go (inl l) =
        let d = digits_low b l in
        record {
          is = rw (d, binary_places_low b l) (count_low b l ∙ sym (mul-one b));
          few = omega arith;
          room = omega arith;
          some = λ p. omega arith;
          sum = omega arith;
          led = λ p. omega arith;
        }
    go (inr g) =
        let d = digits_high b g in
        record {
          is = rw d (count_high b g h);
          few = omega arith;
          room = omega arith;
          some = λ p. omega arith;
          sum = omega arith;
          led = λ p. omega arith;
        }

-- the order of patterns is that of their places and, among as many places, of their digits
pub binary_places_order : (b c : ℕ) → c ≤ b → binary_places_of c ≤ binary_places_of b
unfolding binary_places_of
binary_places_order b c h = omega arith

pub count_order : {b c : ℕ} → Counted b → Counted c → b < c → count (bits b) < count (bits c)
count_order {b} {c} p q l = go (eq-or-lt_of_le (binary_places_order c b (omega arith)))
  where
    closer : binary_places_of b ≡ binary_places_of c → digits_of b < digits_of c
    closer e = omega (arith, p.sum, q.sum)

    go : (binary_places_of b ≡ binary_places_of c) ⊎ (binary_places_of b < binary_places_of c) → count (bits b) < count (bits c)
    go (inl e) = rw (p.is, q.is, e) (mul-lt-mul_of_pos_right (closer e) (pow_pos (binary_places_of c)))
    go (inr g) =
        rw (p.is, q.is)
        (lt_of_lt_of_le (mul-lt-mul_of_pos_right p.few (pow_pos (binary_places_of b)))
        (le_trans
        (le_of_eq (mul_assoc (2 ^ 52) 2 (2 ^ binary_places_of b) ∙ ap (λ (x : ℕ). 2 ^ 52 * x) (sym (pow-succ' 2 (binary_places_of b)))))
        (le_trans (mul-le-mul_left (2 ^ 52) (pow_mono g)) (mul-le-mul_right (2 ^ binary_places_of c) (q.led (omega arith))))))

-- what is left of the digits by the other's, with the other's places, counts what is left
pub rest_counts : {b c : ℕ} → Counted b → Counted c → 0 < c → c ≤ b
    → digits_of b * 2 ^ (binary_places_of b - binary_places_of c) % digits_of c * 2 ^ binary_places_of c ≡ count (bits b) % count (bits c)
rest_counts {b} {c} p q s h =
    rw (p.is, q.is) (rest_lowered (digits_of b) (binary_places_of b) (digits_of c) (binary_places_of c) (q.some s) (binary_places_order b c h))

-- ---- of r·2^g

-- with the leading digit in its place, which goes into the exponent's field
pub pack_high : (r g u : ℕ) → 2 ^ 52 ≤ r * 2 ^ u → r * 2 ^ u < 2 ^ 53 → u < g → g ≤ 2045
    → ((g - u) * 2 ^ 52 + r * 2 ^ u < 2047 * 2 ^ 52) × (count (bits ((g - u) * 2 ^ 52 + r * 2 ^ u)) ≡ r * 2 ^ g)
pack_high r g u l h a room = (below, count_high b (omega arith) below ∙ rw (lead, field) whole)
  where
    b : ℕ
    b = (g - u) * 2 ^ 52 + r * 2 ^ u

    below : (g - u) * 2 ^ 52 + r * 2 ^ u < 2047 * 2 ^ 52
    below = omega arith

    lead : 2 ^ 52 + ((g - u) * 2 ^ 52 + r * 2 ^ u) % 2 ^ 52 ≡ r * 2 ^ u
    lead = omega arith

    field : ((g - u) * 2 ^ 52 + r * 2 ^ u) / 2 ^ 52 - 1 ≡ g - u
    field = omega arith

    whole : r * 2 ^ u * 2 ^ (g - u) ≡ r * 2 ^ g
    whole = mul_assoc r (2 ^ u) (2 ^ (g - u)) ∙ ap (λ (x : ℕ). r * x) (sym (pow-add 2 u (g - u)) ∙ ap (λ (x : ℕ). 2 ^ x) (omega arith))

-- below it: a subnormal, or the least of the other doubles
pub pack_low : (r g u : ℕ) → r * 2 ^ u < 2 ^ 53 → g ≤ u → (r * 2 ^ g < 2047 * 2 ^ 52) × (count (bits (r * 2 ^ g)) ≡ r * 2 ^ g)
pack_low r g u h a = (omega (arith, few), go (less_or_not (r * 2 ^ g) (2 ^ 52)))
  where
    few : r * 2 ^ g < 2 ^ 53
    few = lt_of_le_of_lt (mul-le-mul_left r (pow_mono a)) h

    go : (r * 2 ^ g < 2 ^ 52) ⊎ (2 ^ 52 ≤ r * 2 ^ g) → count (bits (r * 2 ^ g)) ≡ r * 2 ^ g
    go (inl l) = count_low (r * 2 ^ g) l
    go (inr k) = count_high (r * 2 ^ g) k (omega (arith, few)) ∙ rw (lead, field) (mul-one (r * 2 ^ g))
      where
        lead : 2 ^ 52 + r * 2 ^ g % 2 ^ 52 ≡ r * 2 ^ g
        lead = omega (arith, few)

        field : r * 2 ^ g / 2 ^ 52 - 1 ≡ 0
        field = omega (arith, few)
