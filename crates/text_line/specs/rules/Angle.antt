-- An angle as text: whole milliarcseconds. A text is a list of bytes.
use Rattle.std.specs.Prelude.{ℕ, List}
use Rattle.double.specs.rules.Sign.{size}
use Rattle.quantity.specs.declared.Rad.{Rad}
use Rattle.units.specs.rules.Degrees.{to_degrees, milliarcseconds}
use Rattle.units.specs.rules.Nearest.{nearest_whole, has_minus}
use Rattle.text_number.specs.rules.Number.{signed_text}

-- halves go away from zero
unfoldable pub angle_text : Rad → List ℕ
angle_text x =
    let y = milliarcseconds (to_degrees x) in
    signed_text (has_minus y (nearest_whole (size y))) (nearest_whole (size y))
