-- The text has room in `room` bytes.
use Rattle.std.specs.Prelude.{ℕ, ◌≤◌, ◌<◌, [], ◌∷◌, ◌++◌, Float, length}
use Rattle.std.proofs.Common.{arith, length-append}
use Rattle.double.specs.rules.Pattern.{pattern_of}
use Rattle.quantity.specs.rules.Answer.{Answer, answered, refused, Pair, pair}
use Rattle.lent.specs.laws.Texts.{texts_short}
use Rattle.nutation_ceiling.specs.rules.Ceiling.{nutation_ceiling_rule}
use Rattle.text_number.specs.rules.Bytes.{space, line_end}
use Rattle.text_number.specs.rules.Number.{signed_text, hex16}
use Rattle.text_number.specs.laws.Number.{any_signed_short, hex_length, refused_short}
use Rattle.text_ceiling.specs.rules.Text.{is_before, size_at, day_at, bits_text, figures_text, line_at, ceiling_text, room}

bits_short : (x y : Float) → length (bits_text x y) ≤ 34
unfolding bits_text
bits_short x y =
    let second = hex16 (pattern_of y) ++ (line_end ∷ []) in
    omega (arith, length-append (hex16 (pattern_of x)) (space ∷ second), length-append (hex16 (pattern_of y)) (line_end ∷ []), hex_length 16 (pattern_of x), hex_length 16 (pattern_of y))

figures_short : (a : Answer Pair) → length (figures_text a) ≤ 34
figures_short (answered (pair x y)) = bits_short x y
figures_short (refused n) = omega (arith, refused_short n)

line_short : (i : ℕ) → length (line_at i) ≤ 56
unfolding line_at
line_short i =
    let figures = figures_text (nutation_ceiling_rule (day_at i)) in
    omega (arith, length-append (signed_text (is_before i) (size_at i)) (space ∷ figures), any_signed_short (is_before i) (size_at i), figures_short (nutation_ceiling_rule (day_at i)))

pub ceiling_short : length ceiling_text ≤ room
unfolding ceiling_text
ceiling_short = texts_short 56 41 line_at (λ (i : ℕ) (h : i < 41). line_short i)
