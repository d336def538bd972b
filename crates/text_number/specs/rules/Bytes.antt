-- Texts as lists of bytes, each the ASCII code of a character; and the bytes that have a name.
use Rattle.std.specs.Prelude.{ℕ, List, [], ◌∷◌}
use Prim.Native.Char.{code}
use Prim.Native.String as quoted

-- a quoted text
abbrev pub ascii : quoted.String → List ℕ
ascii quoted.[] = []
ascii (quoted.◌∷◌ c t) = code c ∷ ascii t

abbrev pub line_end : ℕ
line_end = code "\n"

abbrev pub space : ℕ
space = code " "

abbrev pub minus_sign : ℕ
minus_sign = code "-"

abbrev pub plus_sign : ℕ
plus_sign = code "+"

abbrev pub point : ℕ
point = code "."

abbrev pub colon : ℕ
colon = code ":"

-- the digits stand one after the other, and so do the letters
abbrev pub digit0 : ℕ
digit0 = code "0"

abbrev pub digit9 : ℕ
digit9 = code "9"

abbrev pub letter_a : ℕ
letter_a = code "a"
