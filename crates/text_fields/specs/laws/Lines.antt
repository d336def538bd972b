-- A text's first line, and those behind it, by their places.
use Rattle.std.specs.Prelude.{ℕ, suc, ◌+◌, ◌≤◌, ◌<◌, ◌≡◌, refl, Bool, true, false, cond, List, [], ◌∷◌, eqb, length, drop}
use Rattle.std.proofs.Common.{ap, arith}
use Rattle.text_number.specs.rules.Bytes.{line_end}
use Rattle.text_fields.specs.declared.Stop.TheVariants.{LineEnd}
use Rattle.text_fields.specs.rules.Fields.{is_stop, before}
use Rattle.text_fields.specs.rules.Lines.{longer, lines, line_length}

pub first_and_rest : (text : List ℕ) → 0 < length text → lines text ≡ before LineEnd text ∷ lines (drop (line_length text) text)
unfolding lines line_length before is_stop
first_and_rest [] h = absurd (omega arith)
first_and_rest (b ∷ []) h = by_case (eqb b line_end)
  where
    by_case : (t : Bool) → cond t ([] ∷ []) ((b ∷ []) ∷ []) ≡ cond t [] (b ∷ []) ∷ lines (drop (cond t 1 (suc 0)) (b ∷ []))
    by_case true = refl
    by_case false = refl
first_and_rest (b ∷ c ∷ text) h = by_case (eqb b line_end) (first_and_rest (c ∷ text) (omega arith))
  where
    by_case : (t : Bool) → lines (c ∷ text) ≡ before LineEnd (c ∷ text) ∷ lines (drop (line_length (c ∷ text)) (c ∷ text))
        → cond t ([] ∷ lines (c ∷ text)) (longer b (lines (c ∷ text)))
        ≡ cond t [] (b ∷ before LineEnd (c ∷ text)) ∷ lines (drop (cond t 1 (suc (line_length (c ∷ text)))) (b ∷ c ∷ text))
    by_case true e = refl
    by_case false e = ap (longer b) e

-- its length is that of its bytes, and one more where its end is there
pub length_with_end : (text : List ℕ) → length (before LineEnd text) < length text → length (before LineEnd text) + 1 ≡ line_length text
unfolding line_length before is_stop
length_with_end [] h = absurd (omega arith)
length_with_end (b ∷ text) h = by_case (eqb b line_end) (length_with_end text) h
  where
    by_case : (t : Bool) → (length (before LineEnd text) < length text → length (before LineEnd text) + 1 ≡ line_length text)
        → length (cond t [] (b ∷ before LineEnd text)) < suc (length text)
        → length (cond t [] (b ∷ before LineEnd text)) + 1 ≡ cond t 1 (suc (line_length text))
    by_case true e h = omega arith
    by_case false e h = omega (arith, e (omega arith))

pub length_without_end : (text : List ℕ) → length text ≤ length (before LineEnd text) → length (before LineEnd text) ≡ line_length text
unfolding line_length before is_stop
length_without_end [] h = refl
length_without_end (b ∷ text) h = by_case (eqb b line_end) (length_without_end text) h
  where
    by_case : (t : Bool) → (length text ≤ length (before LineEnd text) → length (before LineEnd text) ≡ line_length text)
        → suc (length text) ≤ length (cond t [] (b ∷ before LineEnd text))
        → length (cond t [] (b ∷ before LineEnd text)) ≡ cond t 1 (suc (line_length text))
    by_case true e h = absurd (omega arith)
    by_case false e h = omega (arith, e (omega arith))

-- a line takes a byte at least, and no more than there are
pub line_length_some : (text : List ℕ) → 0 < length text → 0 < line_length text
unfolding line_length
line_length_some [] h = absurd (omega arith)
line_length_some (b ∷ text) h = by_case (eqb b line_end)
  where
    by_case : (t : Bool) → 0 < cond t 1 (suc (line_length text))
    by_case true = omega arith
    by_case false = omega arith

pub line_length_short : (text : List ℕ) → line_length text ≤ length text
unfolding line_length
line_length_short [] = omega arith
line_length_short (b ∷ text) = by_case (eqb b line_end) (line_length_short text)
  where
    by_case : (t : Bool) → line_length text ≤ length text → cond t 1 (suc (line_length text)) ≤ suc (length text)
    by_case true h = omega arith
    by_case false h = omega (arith, h)
