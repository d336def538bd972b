-- Words that can stand as fields, and lines that can stand in a text.
use Rattle.std.specs.Prelude.{ℕ, ◌<◌, ◌≡◌, Bool, true, false, cond, List, [], ◌∷◌, eqb, length}
use Rattle.text_number.specs.rules.Bytes.{line_end}
use Rattle.text_fields.specs.rules.Fields.{is_blank, hash}

-- no blank and no mark of a comment
unfoldable pub is_plain : List ℕ → Bool
is_plain [] = true
is_plain (b ∷ word) = cond (is_blank b) false (cond (eqb b hash) false (is_plain word))

-- and a byte at least
pub record IsWord (word : List ℕ) : Type 0 where
  pub plain : is_plain word ≡ true
  pub some : 0 < length word

-- no line's end
unfoldable pub is_one_line : List ℕ → Bool
is_one_line [] = true
is_one_line (b ∷ line) = cond (eqb b line_end) false (is_one_line line)
