-- A day with all its digits: those of its double, which is a whole number of parts of 2^-32 days. A text is a list of bytes.
use Rattle.std.specs.Prelude.{ℕ, zero, suc, ◌+◌, ◌-◌, ◌*◌, ◌/◌, ◌%◌, cond, List, [], ◌∷◌, ◌++◌, eqb, Float}
use Rattle.double.specs.rules.Operations.{bits, ◌⊗◌}
use Rattle.double.specs.rules.Whole.{whole_part}
use Rattle.text_number.specs.rules.Bytes.{digit0, point}
use Rattle.text_number.specs.rules.Number.{decimal_text}

-- 2^32, and 4294967296.0
abbrev pub whole_day : ℕ
whole_day = 4294967296

abbrev pub parts_in_day : Float
parts_in_day = bits 0x41f0000000000000

abbrev pub parts_of : Float → ℕ
parts_of day = whole_part (day ⊗ parts_in_day)

-- ten times what is below a day
abbrev pub tenfold : ℕ → ℕ
tenfold parts = parts % whole_day * 10

abbrev pub digit_of : ℕ → ℕ
digit_of left = digit0 + tenfold left / whole_day

abbrev pub left_of : ℕ → ℕ
left_of left = tenfold left % whole_day

abbrev pub count_after : ℕ → ℕ → ℕ
count_after n left = cond (eqb left 0) 0 (n - 1)

-- digits of what is below a day, as long as something is left, and n of them at most
unfoldable pub digits_text : ℕ → ℕ → List ℕ
digits_text zero left = []
digits_text (suc n) left = digit_of left ∷ cond (eqb (left_of left) 0) [] (digits_text n (left_of left))

unfoldable pub exact_text : Float → List ℕ
exact_text day = decimal_text (parts_of day / whole_day) ++ (point ∷ digits_text 32 (parts_of day))
