-- A sight of a night's as a line of text: its line, its star, the mark's heading by it, and what lies between that and the reference's. A
-- text is a list of bytes.
use Rattle.std.specs.Prelude.{ℕ, ◌/◌, ◌%◌, Bool, cond, List, [], ◌∷◌, ◌++◌, get_or}
use Prim.Native.Char.{code}
use Rattle.double.specs.rules.Operations.{bits}
use Rattle.quantity.specs.declared.Deg.{Deg}
use Rattle.quantity.specs.rules.Angle.{deg}
use Rattle.residual_sheet.specs.declared.Residual.{Residual}
use Rattle.residual_sheet.specs.rules.Residual.{is_aside}
use Rattle.heading_mean.specs.rules.Residual.{residual_from}
use Rattle.text_number.specs.rules.Bytes.{ascii, line_end, point}
use Rattle.text_number.specs.rules.Number.{decimal_text}
use Rattle.text_time.specs.rules.Time.{three_digits}
use Rattle.text_heading.specs.rules.Angle.{circle_text}

-- so many milliarcseconds: 12.345"
unfoldable pub seconds_text : ℕ → List ℕ
seconds_text n = decimal_text (n / 1000) ++ (point ∷ (three_digits (n % 1000) ++ (code "\"" ∷ [])))

unfoldable pub sight_of : ℕ → ℕ → List ℕ
sight_of line star = ascii "line " ++ (decimal_text line ++ (ascii ": star " ++ decimal_text star))

-- a heading grows clockwise
unfoldable pub way_text : Bool → List ℕ
way_text minus = cond minus (ascii " counterclockwise of line ") (ascii " clockwise of line ")

unfoldable pub aside_text : Bool → List ℕ
aside_text aside = cond aside (ascii ", set aside\n") (line_end ∷ [])

-- from the reference, which stands in a line
unfoldable pub residual_text : Residual → ℕ → List ℕ
residual_text x reference = seconds_text x.size ++ (way_text x.minus ++ (decimal_text reference ++ aside_text (is_aside x)))

unfoldable pub heading_text : ℕ → ℕ → Deg → Residual → ℕ → List ℕ
heading_text line star mark x reference =
    sight_of line star ++ (ascii ", mark" ++ (circle_text mark ++ (ascii " from north, clockwise, " ++ residual_text x reference)))

-- ---- sights by their places

-- heading i of a slice, each as its bits
abbrev pub heading_at : List ℕ → ℕ → Deg
heading_at s i = deg (bits (get_or s i 0))

-- sight i, where sight k is the reference
unfoldable pub row_at : List ℕ → List ℕ → List ℕ → ℕ → ℕ → List ℕ
row_at line star heading k i =
    heading_text (get_or line i 0) (get_or star i 0) (heading_at heading i) (residual_from (heading_at heading k) (heading_at heading i)) (get_or line k 0)
