-- The ceiling on nutation at the centuries −20 to 20, a line each: the century in decimal, then the bits of longitude's and of obliquity's
-- figure. Line i has the century i − 20.
use Rattle.std.specs.Prelude.{ℕ, ◌-◌, ◌*◌, Bool, cond, List, [], ◌∷◌, ◌++◌, ltb, Float}
use Rattle.double.specs.rules.Operations.{◌⊕◌, ◌⊖◌, ◌⊗◌}
use Rattle.double.specs.rules.Whole.{from_whole}
use Rattle.double.specs.rules.Pattern.{pattern_of}
use Rattle.quantity.specs.rules.Answer.{Answer, answered, refused, Pair, pair}
use Rattle.quantity.specs.rules.Refusal.{epoch}
use Rattle.lent.specs.rules.Texts.{texts}
use Rattle.helpers.specs.rules.Time.{days_of_century}
use Rattle.nutation_ceiling.specs.rules.Ceiling.{nutation_ceiling_rule}
use Rattle.text_number.specs.rules.Bytes.{space, line_end}
use Rattle.text_number.specs.rules.Number.{signed_text, hex16}
use Rattle.text_number.specs.rules.Refused.{refused_text}

abbrev pub is_before : ℕ → Bool
is_before i = ltb i 20

unfoldable pub size_at : ℕ → ℕ
size_at i = cond (is_before i) (20 - i) (i - 20)

-- 2451545.0 and so many times 36525.0
unfoldable pub day_at : ℕ → Float
day_at i =
    let days = days_of_century ⊗ from_whole (size_at i) in
    cond (is_before i) (epoch ⊖ days) (epoch ⊕ days)

unfoldable pub bits_text : Float → Float → List ℕ
bits_text x y = hex16 (pattern_of x) ++ (space ∷ (hex16 (pattern_of y) ++ (line_end ∷ [])))

abbrev pub figures_text : Answer Pair → List ℕ
figures_text (answered (pair x y)) = bits_text x y
figures_text (refused n) = refused_text n

unfoldable pub line_at : ℕ → List ℕ
line_at i = signed_text (is_before i) (size_at i) ++ (space ∷ figures_text (nutation_ceiling_rule (day_at i)))

unfoldable pub ceiling_text : List ℕ
ceiling_text = texts 41 line_at

-- 56 bytes a line
abbrev pub room : ℕ
room = 56 * 41
