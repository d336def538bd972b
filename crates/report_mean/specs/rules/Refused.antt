-- What is said of a refused sight, of those that are lent by their lines, stars, statuses and bits. A text is a list of bytes.
use Rattle.std.specs.Prelude.{ℕ, suc, cond, List, [], ◌∷◌, ◌++◌, eqb, get_or}
use Rattle.text_number.specs.rules.Bytes.{line_end}
use Rattle.text_heading.specs.rules.Refusal.{sight_refusal_text, mark_refusal_text}
use Rattle.text_headings.specs.rules.Sight.{sight_of}

-- its refusal by its kind
unfoldable pub refusal_text : ℕ → ℕ → List ℕ
refusal_text status bits = cond (eqb bits 0) (sight_refusal_text status) (mark_refusal_text status)

-- and which sight it is
unfoldable pub refused_text : ℕ → ℕ → ℕ → ℕ → List ℕ
refused_text line star status bits = refusal_text status bits ++ (sight_of line star ++ (line_end ∷ []))

abbrev pub refused_at : List ℕ → List ℕ → List ℕ → List ℕ → ℕ → List ℕ
refused_at line star status bits i = refused_text (get_or line i 0) (get_or star i 0) (get_or status i 0) (get_or bits i 0)

-- the place of the first that is refused, the number of sights where none is
unfoldable pub first_refused : List ℕ → ℕ
first_refused [] = 0
first_refused (n ∷ status) = cond (eqb n 0) (suc (first_refused status)) 0
