-- How long numbers and refusals are as text.
use Rattle.std.specs.Prelude.{◌≡◌, refl, Bool, true, false, cond, List, [], ◌∷◌, ◌++◌, ℕ, zero, suc, ◌+◌, ◌/◌, ◌%◌, ◌^◌, ◌≤◌, ◌<◌, ltb, ℤ, nat_abs, length}
use Rattle.std.proofs.Common.{pow-suc, arith, length-append, ltb-false}
use Rattle.signed.specs.rules.Signed.{negative}
use Rattle.text_number.specs.rules.Bytes.{line_end, digit0}
use Rattle.text_number.specs.rules.Number.{decimal_in, decimal_text, signed_text, integer_text, hex_digit, hex_in}
use Rattle.text_number.specs.rules.Refused.{refused_word, refused_text}

-- ---- decimal

-- a digit more than the number without its last one
one_more_digit : (f k n : ℕ) → (10 ≤ n → length (decimal_in f (n / 10)) ≤ k) → length (decimal_in (suc f) n) ≤ suc k
unfolding decimal_in
one_more_digit f k n h = go (ltb n 10) refl
  where
    go : (b : Bool) → ltb n 10 ≡ b
        → length (cond b ((digit0 + n) ∷ []) (decimal_in f (n / 10) ++ ((digit0 + n % 10) ∷ []))) ≤ suc k
    go true e = omega arith
    go false e = omega (arith, length-append (decimal_in f (n / 10)) ((digit0 + n % 10) ∷ []), h (ltb-false n 10 e))

-- a number below a power of ten has no more digits than that
digits_short : (f k n : ℕ) → n < 10 ^ suc k → length (decimal_in f n) ≤ suc k
unfolding decimal_in
digits_short zero k n h = omega arith
digits_short (suc f) zero n h = one_more_digit f zero n (λ e. absurd (omega arith))
digits_short (suc f) (suc k) n h = one_more_digit f (suc k) n (λ e. digits_short f k (n / 10) (omega (arith, pow-suc 10 (suc k))))

-- no number has more than it is given
digits_within : (f n : ℕ) → length (decimal_in f n) ≤ f
unfolding decimal_in
digits_within zero n = omega arith
digits_within (suc f) n = one_more_digit f f n (λ e. digits_within f (n / 10))

signed_length : (minus : Bool) (n k : ℕ) → length (decimal_text n) ≤ k → length (signed_text minus n) ≤ suc k
signed_length true n k h = omega arith
signed_length false n k h = omega arith

-- numbers of 32 bits
pub decimal_short : (n : ℕ) → n < 4294967296 → length (decimal_text n) ≤ 10
decimal_short n h = digits_short 20 9 n (omega arith)

pub integer_short : (z : ℤ) → nat_abs z < 4294967296 → length (integer_text z) ≤ 11
unfolding integer_text
integer_short z h = signed_length (negative z) (nat_abs z) 10 (decimal_short (nat_abs z) h)

-- any numbers
pub any_decimal_short : (n : ℕ) → length (decimal_text n) ≤ 20
any_decimal_short n = digits_within 20 n

pub any_signed_short : (minus : Bool) (n : ℕ) → length (signed_text minus n) ≤ 21
any_signed_short minus n = signed_length minus n 20 (any_decimal_short n)

-- ---- hexadecimal

pub hex_length : (k n : ℕ) → length (hex_in k n) ≡ k
unfolding hex_in
hex_length zero n = refl
hex_length (suc k) n = omega (arith, length-append (hex_in k (n / 16)) (hex_digit (n % 16) ∷ []), hex_length k (n / 16))

-- ---- a refusal

pub refused_short : (n : ℕ) → length (refused_text n) ≤ 29
unfolding refused_text
refused_short n =
    let end : List ℕ = line_end ∷ [] in
    omega (arith, length-append refused_word (decimal_text n ++ end), length-append (decimal_text n) end, any_decimal_short n)
