-- The whole part of a double and a whole number as a double: where each is exact, and that both keep the order.
use Rattle.std.specs.Prelude.{◌≡◌, ℕ, suc, ◌+◌, ◌-◌, ◌*◌, ◌/◌, ◌%◌, ◌^◌, ◌<◌, ◌≤◌, min, true, false, refl, Float}
use Rattle.std.proofs.Common.{sym, ap, ◌∙◌, zero-le, div-add-mod', mod-lt, arith, ltb→lt}
use Rattle.std.specs.Float.{nan, inf, fin, binary64}
use Rattle.std.specs.Float.Ieee.{up, down, of_int, of_bits, to_unsigned}
use Rattle.std.specs.Float.Ieee.Fits.{down_pos}
use Rattle.std.specs.Float.Ieee.Nearest.{div_mono}
use Rattle.std.specs.Float.Ieee.Order.{round_mono}
use Rattle.std.specs.Float.Ieee.Exact.{HasValue}
use Rattle.std.specs.Float.Ieee.Back.{round_whole}
use Rattle.double.specs.rules.Operations.{zero}
use Rattle.double.specs.rules.Sign.{is_finite}
use Rattle.double.specs.rules.Order.{◌≼◌, Finite, Plus, Between}
use Rattle.double.specs.rules.Whole.{whole_part, from_whole, IsWholePart}
use Rattle.double.specs.laws.Rounding.{round_plus}
use Rattle.double.specs.laws.Order.{le→below}
use Rattle.double.specs.laws.Between.{between, zero_le_plus}
use Rattle.double.specs.laws.Grid.{parts_of_value}

-- ---- the whole part

-- up to y, which bears no minus sign
pub whole_part_mono : (x y : Float) → Finite x → Finite y → Plus y → x ≼ y → whole_part x ≤ whole_part y
unfolding to_unsigned is_finite
whole_part_mono nan y p q r h = absurd p
whole_part_mono (inf s) y p q r h = absurd p
whole_part_mono (fin s m e) nan p q r h = absurd q
whole_part_mono (fin s m e) (inf t) p q r h = absurd q
whole_part_mono (fin s m e) (fin true n d) p q r h = absurd r
whole_part_mono (fin true m e) (fin false n d) p q r h = zero-le
whole_part_mono (fin false m e) (fin false n d) p q r h =
    capped (m * up e / down e) (n * up d / down d) (2 ^ 64 - 1)
    (div_mono (m * up e) (down e) (n * up d) (down d) (down_pos e) (down_pos d) (omega (arith, le→below (fin false m e) (fin false n d) tt tt h)))
  where
    capped : (a b c : ℕ) → a ≤ b → min a c ≤ min b c
    capped a b c h = omega arith

uncapped : (x d n : ℕ) → 0 < d → n < 2 ^ 64 - 1 → min (x / d) (2 ^ 64 - 1) ≡ n → (n * d ≤ x) × (x < suc n * d)
uncapped x d n D h e =
    let q : x / d ≡ n = omega arith in
    let s : n * d + x % d ≡ x = ap (λ (y : ℕ). y * d + x % d) (sym q) ∙ div-add-mod' x d in
    let r : x % d < d = mod-lt x D in
    (omega arith, omega arith)

-- it is the true one wherever it is below 2^64 − 1
pub whole_part_true : (x : Float) → Finite x → Plus x → whole_part x < 2 ^ 64 - 1 → IsWholePart (whole_part x) x
unfolding to_unsigned is_finite
whole_part_true nan p q h = absurd p
whole_part_true (inf t) p q h = absurd p
whole_part_true (fin true m e) p q h = absurd q
whole_part_true (fin false m e) p q h =
    let w = uncapped (m * up e) (down e) (whole_part (fin false m e)) (down_pos e) h refl in
    record { finite = tt; plus = tt; under = w.0; over = w.1 }

-- ---- a whole number as a double

pub from_whole_exact : (n : ℕ) → n ≤ 2 ^ 53 → HasValue (from_whole n) false n 1
unfolding of_int
from_whole_exact n h = round_whole binary64 false n h

pub from_whole_plus : (n : ℕ) → Plus (from_whole n)
unfolding of_int
from_whole_plus n = round_plus binary64 n 1

pub from_whole_mono : (n m : ℕ) → n ≤ m → from_whole n ≼ from_whole m
unfolding of_int
from_whole_mono n m h = round_mono binary64 n 1 m 1 (ltb→lt 0 1 tt) (ltb→lt 0 1 tt) (omega arith)

pub from_whole_between : (n m : ℕ) → n ≤ m → m ≤ 2 ^ 53 → Between zero (from_whole m) (from_whole n)
from_whole_between n m h k =
    let M = (parts_of_value (from_whole m) m 1 (from_whole_exact m k)).finite in
    let N = (parts_of_value (from_whole n) n 1 (from_whole_exact n (omega arith))).finite in
    between (unfold is_finite of_bits in tt) M (zero_le_plus (from_whole n) N (from_whole_plus n)) (from_whole_mono n m h)
