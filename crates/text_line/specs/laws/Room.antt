-- How long a star's line is, at most.
use Rattle.std.specs.Prelude.{ℕ, ◌≤◌, Bool, true, false, cond, [], ◌∷◌, ◌++◌, eqb, length}
use Rattle.std.proofs.Common.{arith, length-append}
use Rattle.double.specs.rules.Sign.{size}
use Rattle.double.specs.rules.Pattern.{pattern_of}
use Rattle.quantity.specs.declared.Rad.{Rad}
use Rattle.units.specs.rules.Degrees.{to_degrees, milliarcseconds}
use Rattle.units.specs.rules.Nearest.{nearest_whole, has_minus}
use Rattle.text_number.specs.rules.Bytes.{space, line_end}
use Rattle.text_number.specs.rules.Number.{decimal_text, signed_text, hex16}
use Rattle.text_number.specs.rules.Refused.{refused_text}
use Rattle.text_number.specs.laws.Number.{any_decimal_short, any_signed_short, hex_length, refused_short}
use Rattle.text_line.specs.rules.Angle.{angle_text}
use Rattle.text_line.specs.rules.Line.{angle_then, bits_then, angles_text, line_of}

angle_short : (x : Rad) (end : ℕ) → length (angle_then x end) ≤ 22
unfolding angle_then angle_text
angle_short x end =
    let y = milliarcseconds (to_degrees x) in
    let n = nearest_whole (size y) in
    omega (arith, length-append (signed_text (has_minus y n) n) (end ∷ []), any_signed_short (has_minus y n) n)

bits_short : (x : Rad) (end : ℕ) → length (bits_then x end) ≤ 17
unfolding bits_then
bits_short x end =
    let n = pattern_of x.0 in
    omega (arith, length-append (hex16 n) (end ∷ []), hex_length 16 n)

angles_short : (asc dec : Rad) → length (angles_text asc dec) ≤ 78
unfolding angles_text
angles_short asc dec =
    let a = angle_short asc space in
    let b = angle_short dec space in
    let c = bits_short asc space in
    let d = bits_short dec line_end in
    simp length-append (omega arith)

pub line_short : (number status : ℕ) (asc dec : Rad) → length (line_of number status asc dec) ≤ 100
unfolding line_of
line_short number status asc dec = by_case (eqb status 0)
  where
    by_case : (b : Bool) → length (decimal_text number ++ (space ∷ cond b (angles_text asc dec) (refused_text status))) ≤ 100
    by_case true =
        omega (arith, length-append (decimal_text number) (space ∷ angles_text asc dec), any_decimal_short number, angles_short asc dec)
    by_case false =
        omega (arith, length-append (decimal_text number) (space ∷ refused_text status), any_decimal_short number, refused_short status)
