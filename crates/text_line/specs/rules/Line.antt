-- The line of a star: its number, then its angles or its refusal. A text is a list of bytes.
use Rattle.std.specs.Prelude.{ℕ, cond, List, [], ◌∷◌, ◌++◌, eqb}
use Rattle.double.specs.rules.Pattern.{pattern_of}
use Rattle.quantity.specs.declared.Rad.{Rad}
use Rattle.text_number.specs.rules.Bytes.{space, line_end}
use Rattle.text_number.specs.rules.Number.{decimal_text, hex16}
use Rattle.text_number.specs.rules.Refused.{refused_text}
use Rattle.text_line.specs.rules.Angle.{angle_text}

-- an angle in milliarcseconds, and its bits in hexadecimal, each with a byte after it
unfoldable pub angle_then : Rad → ℕ → List ℕ
angle_then x end = angle_text x ++ (end ∷ [])

unfoldable pub bits_then : Rad → ℕ → List ℕ
bits_then x end = hex16 (pattern_of x.0) ++ (end ∷ [])

-- both angles in milliarcseconds, then the bits of both
unfoldable pub angles_text : Rad → Rad → List ℕ
angles_text asc dec = angle_then asc space ++ (angle_then dec space ++ (bits_then asc space ++ bits_then dec line_end))

-- a star's number, then its angles or its refusal
unfoldable pub line_of : ℕ → ℕ → Rad → Rad → List ℕ
line_of number status asc dec = decimal_text number ++ (space ∷ cond (eqb status 0) (angles_text asc dec) (refused_text status))
