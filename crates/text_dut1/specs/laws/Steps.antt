-- The rules as the code goes: without a byte and by the first one, and by what the digits say.
use Rattle.std.specs.Prelude.{ℕ, zero, suc, ◌*◌, ◌-◌, ◌<◌, ◌≤◌, ◌≡◌, refl, Bool, true, false, cond, List, [], ◌∷◌, eqb, pos, negsuc, length, drop, get_or}
use Rattle.std.proofs.Common.{ap, mul-le-mul_left, arith, le-leb, lt-ltb, le-ltb}
use Rattle.std.proofs.lemmas.Bool.{lt-leb}
use Rattle.signed.specs.rules.Signed.{signed_of}
use Rattle.text_number.specs.rules.Bytes.{plus_sign, minus_sign}
use Rattle.text_dut1.specs.rules.Scan.{most, start, scanned}
use Rattle.text_dut1.specs.rules.Dut1.{is, none, signed_in, with_sign, dut1_rule}

pub no_byte : (text : List ℕ) → length text ≡ 0 → dut1_rule text ≡ none
unfolding dut1_rule
no_byte [] h = refl
no_byte (b ∷ text) h = absurd (omega arith)

pub by_first_byte : (text : List ℕ) → 0 < length text
    → dut1_rule text
    ≡ cond (eqb (get_or text 0 0) minus_sign) (with_sign true (scanned start (drop 1 text)))
    (cond (eqb (get_or text 0 0) plus_sign) (with_sign false (scanned start (drop 1 text))) (with_sign false (scanned start text)))
unfolding dut1_rule
by_first_byte [] h = absurd (omega arith)
by_first_byte (b ∷ text) h = refl

-- ---- a product of two that 32 bits hold

pub product_small : (x y : ℕ) → x < 4294967296 → y < 4294967296 → x * y < 18446744073709551616
product_small x y h k =
    let most-y : y ≤ 4294967295 = omega arith in
    omega (arith, mul-le-mul_left x most-y)

-- ---- too large, zero, below it and above it

pub far_signed : (minus : Bool) (n : ℕ) → most < n → signed_in minus n ≡ none
unfolding signed_in
far_signed minus n h = rw (lt-leb n most h)

pub nought_signed : (minus : Bool) → signed_in minus 0 ≡ is (pos 0)
unfolding signed_in
nought_signed true = refl
nought_signed false = refl

pub above_signed : (n : ℕ) → n ≤ most → signed_in false n ≡ is (signed_of n)
unfolding signed_in
above_signed n h = rw (le-leb n most h, lt-ltb n 2147483648 (omega arith))

pub below_signed : (n : ℕ) → 0 < n → n ≤ most → signed_in true n ≡ is (signed_of (4294967295 - (n - 1)))
unfolding signed_in
below_signed zero h g = absurd (omega arith)
below_signed (suc n) h g =
    let u = 4294967295 - (suc n - 1) in
    rw (le-leb (suc n) most g, le-ltb u 2147483648 (omega arith)) (ap (λ (k : ℕ). is (negsuc k)) (let e : n ≡ 4294967296 - suc u = omega arith in e))
