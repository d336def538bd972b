-- The signed rule without a byte and by the first one, and by what its digits say.
use Rattle.std.specs.Prelude.{ℕ, zero, suc, ◌-◌, ◌<◌, ◌≤◌, ◌≡◌, refl, Bool, true, false, cond, List, [], ◌∷◌, eqb, pos, negsuc, length, drop, get_or}
use Rattle.std.proofs.Common.{ap, arith, lt-ltb, le-ltb}
use Rattle.signed.specs.rules.Signed.{signed_of}
use Rattle.text_number.specs.rules.Bytes.{plus_sign, minus_sign}
use Rattle.text_whole.specs.rules.Unsigned.{is, none, unsigned_rule}
use Rattle.text_whole.specs.rules.Signed.{signed_in, with_sign, signed_rule}

pub no_number : (text : List ℕ) → length text ≡ 0 → signed_rule text ≡ none
unfolding signed_rule
no_number [] h = refl
no_number (b ∷ text) h = absurd (omega arith)

pub by_first_byte : (text : List ℕ) → 0 < length text
    → signed_rule text
    ≡ cond (eqb (get_or text 0 0) minus_sign) (with_sign true (unsigned_rule (drop 1 text)))
    (cond (eqb (get_or text 0 0) plus_sign) (with_sign false (unsigned_rule (drop 1 text))) (with_sign false (unsigned_rule text)))
unfolding signed_rule
by_first_byte [] h = absurd (omega arith)
by_first_byte (b ∷ text) h = refl

-- ---- zero, too far from it, below it and above it

pub nought_signed : (minus : Bool) → signed_in minus 0 ≡ is (pos 0)
unfolding signed_in
nought_signed true = refl
nought_signed false = refl

pub far_signed : (minus : Bool) (n : ℕ) → 2147483648 < n → signed_in minus n ≡ none
unfolding signed_in
far_signed true zero h = absurd (omega arith)
far_signed true (suc n) h = rw (le-ltb n 2147483648 (omega arith))
far_signed false n h = rw (le-ltb n 2147483648 (omega arith))

pub lowest_above : (n : ℕ) → n ≡ 2147483648 → signed_in false n ≡ none
unfolding signed_in
lowest_above n h = rw (le-ltb n 2147483648 (omega arith))

pub above_signed : (n : ℕ) → n < 2147483648 → signed_in false n ≡ is (signed_of n)
unfolding signed_in
above_signed n h = rw (lt-ltb n 2147483648 h)

pub below_signed : (n : ℕ) → 0 < n → n ≤ 2147483648 → signed_in true n ≡ is (signed_of (4294967295 - (n - 1)))
unfolding signed_in
below_signed zero h g = absurd (omega arith)
below_signed (suc n) h g =
    let u = 4294967295 - (suc n - 1) in
    rw (lt-ltb n 2147483648 (omega arith), le-ltb u 2147483648 (omega arith))
    (ap (λ (k : ℕ). is (negsuc k)) (let e : n ≡ 4294967296 - suc u = omega arith in e))
