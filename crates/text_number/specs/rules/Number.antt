-- Numbers as text: decimal, with a sign, and sixteen hexadecimal digits. A text is a list of bytes.
use Rattle.std.specs.Prelude.{ℕ, zero, suc, ◌+◌, ◌-◌, ◌/◌, ◌%◌, Bool, cond, List, [], ◌∷◌, ◌++◌, ltb, ℤ, nat_abs}
use Rattle.signed.specs.rules.Signed.{negative}
use Rattle.text_number.specs.rules.Bytes.{minus_sign, digit0, letter_a}

-- at most so many digits, with none in front that is 0
unfoldable pub decimal_in : ℕ → ℕ → List ℕ
decimal_in zero n = []
decimal_in (suc digits) n = cond (ltb n 10) ((digit0 + n) ∷ []) (decimal_in digits (n / 10) ++ ((digit0 + n % 10) ∷ []))

-- a number below 10^20
abbrev pub decimal_text : ℕ → List ℕ
decimal_text n = decimal_in 20 n

-- a sign and a size
abbrev pub signed_text : Bool → ℕ → List ℕ
signed_text minus n = cond minus (minus_sign ∷ decimal_text n) (decimal_text n)

-- a signed number: the minus sign stands in front below zero
unfoldable pub integer_text : ℤ → List ℕ
integer_text z = signed_text (negative z) (nat_abs z)

-- 0 to 9, then a to f
abbrev pub hex_digit : ℕ → ℕ
hex_digit d = cond (ltb d 10) (digit0 + d) (letter_a - 10 + d)

-- the last digits of n, so many of them
unfoldable pub hex_in : ℕ → ℕ → List ℕ
hex_in zero n = []
hex_in (suc digits) n = hex_in digits (n / 16) ++ (hex_digit (n % 16) ∷ [])

abbrev pub hex16 : ℕ → List ℕ
hex16 n = hex_in 16 n
