-- The observer's place, each coordinate with the letter of its side: a longitude is positive west, a latitude north. A text is a list of bytes.
use Rattle.std.specs.Prelude.{ℕ, ◌/◌, ◌%◌, Bool, cond, List, [], ◌∷◌, ◌++◌, Float}
use Prim.Native.Char.{code}
use Rattle.double.specs.rules.Operations.{bits, ◌⊗◌}
use Rattle.double.specs.rules.Sign.{size}
use Rattle.quantity.specs.declared.Deg.{Deg}
use Rattle.units.specs.rules.Nearest.{nearest_whole, has_minus}
use Rattle.text_number.specs.rules.Bytes.{ascii, space, point, line_end}
use Rattle.text_number.specs.rules.Number.{decimal_text}
use Rattle.text_time.specs.rules.Time.{two_digits}

-- 100.0
abbrev pub hundredths_of_degree : Float
hundredths_of_degree = bits 0x4059000000000000

abbrev pub hundredths : Deg → Float
hundredths x = x.0 ⊗ hundredths_of_degree

abbrev pub side_of : Bool → ℕ → ℕ → ℕ
side_of minus positive negative = cond minus negative positive

-- 71.08 W
unfoldable pub parts_text : ℕ → ℕ → List ℕ
parts_text n letter = decimal_text (n / 100) ++ (point ∷ (two_digits (n % 100) ++ (space ∷ (letter ∷ []))))

-- to the nearest hundredth of a degree
unfoldable pub coordinate_text : Deg → ℕ → ℕ → List ℕ
coordinate_text x positive negative =
    let n = nearest_whole (size (hundredths x)) in
    parts_text n (side_of (has_minus (hundredths x) n) positive negative)

unfoldable pub place_text : Deg → Deg → List ℕ
place_text long lat =
    ascii "place            " ++ (coordinate_text long (code "W") (code "E") ++ (ascii ", " ++ (coordinate_text lat (code "N") (code "S") ++ (line_end ∷ []))))
