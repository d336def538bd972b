-- An angle in degrees, minutes and seconds of arc, as text. It becomes a whole number of tenths of a second first, and that number is
-- parted: no part is rounded by itself. A text is a list of bytes.
use Rattle.std.specs.Prelude.{ℕ, ◌/◌, ◌%◌, Bool, false, cond, List, [], ◌∷◌, ◌++◌, ltb, Float}
use Prim.Native.Char.{code}
use Rattle.double.specs.rules.Operations.{bits, ◌⊗◌}
use Rattle.double.specs.rules.Sign.{size}
use Rattle.quantity.specs.declared.Deg.{Deg}
use Rattle.units.specs.rules.Nearest.{nearest_whole, has_minus}
use Rattle.text_number.specs.rules.Bytes.{ascii, minus_sign, space, point}
use Rattle.text_number.specs.rules.Number.{decimal_text}
use Rattle.text_time.specs.rules.Time.{two_digits}

-- 36000.0
abbrev pub tenths_of_degree : Float
tenths_of_degree = bits 0x40e1940000000000

abbrev pub tenths : Deg → Float
tenths x = x.0 ⊗ tenths_of_degree

-- to the nearest tenth, halves going away from zero
unfoldable pub tenths_of : Deg → ℕ
tenths_of x = nearest_whole (size (tenths x))

-- below a turn: what rounds to 360 degrees is 0
unfoldable pub circle_tenths : Deg → ℕ
circle_tenths x = tenths_of x % 12960000

-- 276d10'06.3"
unfoldable pub arc_text : ℕ → List ℕ
arc_text n =
    decimal_text (n / 36000) ++ (code "d" ∷ (two_digits (n / 600 % 60) ++ (code "'" ∷ (two_digits (n / 10 % 60)
    ++ (point ∷ (decimal_text (n % 10) ++ (code "\"" ∷ [])))))))

-- spaces in front of fewer than three digits
unfoldable pub pad_text : ℕ → List ℕ
pad_text degrees = cond (ltb degrees 10) (ascii "  ") (cond (ltb degrees 100) (ascii " ") [])

-- a sign, or a space in its column
abbrev pub lead_of : Bool → ℕ
lead_of minus = cond minus minus_sign space

unfoldable pub column_text : Bool → ℕ → List ℕ
column_text minus n = pad_text (n / 36000) ++ (lead_of minus ∷ arc_text n)

-- a minus sign stands before what is below zero once rounded
unfoldable pub angle_text : Deg → List ℕ
angle_text x = column_text (has_minus (tenths x) (tenths_of x)) (tenths_of x)

-- a heading
unfoldable pub circle_text : Deg → List ℕ
circle_text x = column_text false (circle_tenths x)

-- a mark's, in a line
unfoldable pub mark_text : Deg → List ℕ
mark_text mark = ascii "mark            " ++ (circle_text mark ++ ascii " from north, clockwise\n")
