-- The fields of a line: what stands between blanks.
use Rattle.std.specs.Prelude.{ℕ, ◌+◌, Bool, true, false, cond, not, ◌||◌, List, [], ◌∷◌, eqb, length}
use Prim.Native.Char.{code}
use Rattle.text_number.specs.rules.Bytes.{line_end, space}
use Rattle.text_fields.specs.declared.Stop.{Stop}
use Rattle.text_fields.specs.declared.Stop.TheVariants.{LineEnd, Hash, Blank, Field}

abbrev pub tab : ℕ
tab = code "\t"

abbrev pub carriage_return : ℕ
carriage_return = code "\r"

abbrev pub hash : ℕ
hash = code "#"

-- what stands between fields; a carriage return, so that one before a line's end is none
unfoldable pub is_blank : ℕ → Bool
is_blank b = eqb b space || (eqb b tab || eqb b carriage_return)

-- what a pass ends at
unfoldable pub is_stop : Stop → ℕ → Bool
is_stop LineEnd b = eqb b line_end
is_stop Hash b = eqb b hash
is_stop Blank b = is_blank b
is_stop Field b = not (is_blank b)

-- the bytes before the first such byte, and those from it on
unfoldable pub before : Stop → List ℕ → List ℕ
before stop [] = []
before stop (b ∷ text) = cond (is_stop stop b) [] (b ∷ before stop text)

unfoldable pub since : Stop → List ℕ → List ℕ
since stop [] = []
since stop (b ∷ text) = cond (is_stop stop b) (b ∷ text) (since stop text)

-- no field is left
unfoldable pub is_bare : List ℕ → Bool
is_bare [] = true
is_bare (b ∷ text) = cond (is_blank b) (is_bare text) false

-- the first field, and what follows it
unfoldable pub field_of : List ℕ → List ℕ
field_of text = before Blank (since Field text)

unfoldable pub after_field : List ℕ → List ℕ
after_field text = since Blank (since Field text)

-- how many bytes it ends after
unfoldable pub field_end : List ℕ → ℕ
field_end text = length (before Field text) + length (field_of text)
