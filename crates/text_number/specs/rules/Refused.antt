-- The line of a refusal, which every program prints alike.
use Rattle.std.specs.Prelude.{ℕ, List, [], ◌∷◌, ◌++◌}
use Rattle.text_number.specs.rules.Bytes.{ascii, line_end}
use Rattle.text_number.specs.rules.Number.{decimal_text}

abbrev pub refused_word : List ℕ
refused_word = ascii "refused "

unfoldable pub refused_text : ℕ → List ℕ
refused_text n = refused_word ++ (decimal_text n ++ (line_end ∷ []))
