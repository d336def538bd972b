-- Wrong variants of the functions on signed numbers.
use Rattle.std.specs.Prelude.{ℕ, ◌+◌, ◌-◌, ◌^◌, Bool, cond, ltb, ℤ, pos, nat_abs, neg_ℤ}
use Rattle.std.specs.Int.Signed.{lt_z}
use Rattle.signed.specs.rules.Signed.{negative, reach, signed_of}

-- what is below one
abbrev pub one_is_negative : ℤ → Bool
one_is_negative z = lt_z z (pos 1)

-- n for −n
abbrev pub reach_is_size : ℤ → ℕ
reach_is_size z = nat_abs z

-- below zero
abbrev pub size_one_more : ℤ → ℕ
size_one_more z = cond (negative z) (reach z + 2) (reach z)

-- −(2^32 − 1 − u) from 2^31 on
abbrev pub top_bit_misread : ℕ → ℤ
top_bit_misread u = cond (ltb u (2 ^ 31)) (signed_of u) (neg_ℤ (pos (2 ^ 32 - 1 - u)))

-- a byte from 128 on as a number below zero
abbrev pub widened_with_its_sign : ℕ → ℕ
widened_with_its_sign x = cond (ltb x 128) x (x + (2 ^ 32 - 256))
