-- The next line that is read, and those behind it, are all: who asks again and again, each time behind the last answer, meets every entry
-- once and in order. Lines that were read before only add to the number of a line.
use Rattle.std.specs.Prelude.{ℕ, suc, ◌+◌, ◌≤◌, ◌<◌, ◌≡◌, Bool, true, false, cond, eqb, length, drop, get_or}
use Rattle.std.proofs.Math.Path.{refl, ap}
use Rattle.std.proofs.Common.{sym, subst, ◌∙◌, arith, add-one, length-drop, drop-cons}
use mathlib.Core.List.{List, [], ◌∷◌}
use Rattle.text_number.specs.rules.Bytes.{line_end}
use Rattle.text_whole.specs.rules.Unsigned.{Reading, is, none}
use Rattle.text_fields.specs.declared.Stop.TheVariants.{Hash}
use Rattle.text_fields.specs.rules.Fields.{before, is_bare}
use Rattle.text_fields.specs.rules.Lines.{longer, lines}
use Rattle.text_fields.specs.rules.Next.{Found, found, unclear_at, end, found_on, read_by, next_said, next_of}
use Rattle.text_fields.specs.rules.Walk.{Told, told, nothing, unclear, told_by, told_of, entries_with, entries_from, entries_in}
use Rattle.text_fields.specs.rules.Walk.{Ending, all_read, unclear_in, ending_with, ending_from}
use Rattle.text_fields.specs.notions.Walk.{Walked, Ended}

-- no more lines than bytes
few_lines : (text : List ℕ) → length (lines text) ≤ length text
unfolding lines
few_lines [] = omega arith
few_lines (b ∷ text) = by_case (eqb b line_end) (lines text) (few_lines text)
  where
    by_case : (t : Bool) (ls : List (List ℕ)) → length ls ≤ length text → length (cond t ([] ∷ ls) (longer b ls)) ≤ suc (length text)
    by_case true ls h = omega (arith, h)
    by_case false [] h = omega arith
    by_case false (l ∷ ls) h = omega (arith, h)

-- so many lines more before
abbrev moved_on : {A : Type 0} → ℕ → Found A → Found A
moved_on k (found x line ls) = found x (k + line) ls
moved_on k (unclear_at line) = unclear_at (k + line)
moved_on k end = end

-- lines read and lines left are those that there were
abbrev Counted : {A : Type 0} → ℕ → Found A → Type 0
Counted all (found x line ls) = (line + length ls ≡ all) × (0 < line)
Counted all (unclear_at line) = line ≤ all
Counted all end = Unit {0}

-- a line in front of others
abbrev found_with : {A : Type 0} → Told A → ℕ → List (List ℕ) → Found A → Found A
found_with (told x) line ls behind = found x line ls
found_with nothing line ls behind = behind
found_with unclear line ls behind = unclear_at line

module _ {A : Type 0} (rule : List ℕ → Reading A) where
  by_line : (passed : ℕ) (l : List ℕ) (ls : List (List ℕ))
      → next_of rule passed (l ∷ ls) ≡ found_with (told_of rule l) (suc passed) ls (next_of rule (suc passed) ls)
  unfolding next_of next_said told_of
  by_line passed l ls = by_case (is_bare (before Hash l))
    where
      by_reading : (r : Reading A) → found_on r (suc passed) ls ≡ found_with (told_by r) (suc passed) ls (read_by rule (next_said (suc passed) ls))
      by_reading (is x) = refl
      by_reading none = refl

      by_case : (t : Bool) → read_by rule (cond t (next_said (suc passed) ls) (found (before Hash l) (suc passed) ls))
          ≡ found_with (cond t nothing (told_by (rule (before Hash l)))) (suc passed) ls (read_by rule (next_said (suc passed) ls))
      by_case true = refl
      by_case false = by_reading (rule (before Hash l))

  none_behind : (passed : ℕ) → next_of rule passed [] ≡ end
  unfolding next_of next_said
  none_behind passed = refl

  abbrev ending_behind : Found A → Ending
  ending_behind (found x line ls) = ending_from rule line ls
  ending_behind (unclear_at line) = unclear_in line
  ending_behind end = all_read

  pub ending_by_next : (passed : ℕ) (ls : List (List ℕ)) → ending_from rule passed ls ≡ ending_behind (next_of rule passed ls)
  unfolding ending_from
  ending_by_next passed [] = ap ending_behind (sym (none_behind passed))
  ending_by_next passed (l ∷ ls) = by_case (told_of rule l) (ending_by_next (suc passed) ls) ∙ ap ending_behind (sym (by_line passed l ls))
    where
      by_case : (s : Told A) → ending_from rule (suc passed) ls ≡ ending_behind (next_of rule (suc passed) ls)
          → ending_with s (suc passed) (ending_from rule (suc passed) ls) ≡ ending_behind (found_with s (suc passed) ls (next_of rule (suc passed) ls))
      by_case (told x) e = refl
      by_case nothing e = e
      by_case unclear e = refl

  next_counts : (passed : ℕ) (ls : List (List ℕ)) → Counted (passed + length ls) (next_of rule passed ls)
  next_counts passed [] = rw (none_behind passed) tt
  next_counts passed (l ∷ ls) =
      let e : suc passed + length ls ≡ passed + suc (length ls) = omega arith in
      rw (by_line passed l ls) (by_case (told_of rule l) e (next_counts (suc passed) ls))
    where
      by_case : (s : Told A) → suc passed + length ls ≡ passed + suc (length ls) → Counted (suc passed + length ls) (next_of rule (suc passed) ls)
          → Counted (passed + suc (length ls)) (found_with s (suc passed) ls (next_of rule (suc passed) ls))
      by_case (told x) e h = (e, omega arith)
      by_case nothing e h = rw e at h
      by_case unclear e h = omega arith

  pub lines_before : (k passed : ℕ) (ls : List (List ℕ)) → next_of rule (k + passed) ls ≡ moved_on k (next_of rule passed ls)
  lines_before k passed [] = none_behind (k + passed) ∙ ap (moved_on k) (sym (none_behind passed))
  lines_before k passed (l ∷ ls) =
      let e : k + suc passed ≡ suc (k + passed) = omega arith in
      by_line (k + passed) l ls ∙ by_case (told_of rule l) e (lines_before k (suc passed) ls) ∙ ap (moved_on k) (sym (by_line passed l ls))
    where
      by_case : (s : Told A) → k + suc passed ≡ suc (k + passed) → next_of rule (k + suc passed) ls ≡ moved_on k (next_of rule (suc passed) ls)
          → found_with s (suc (k + passed)) ls (next_of rule (suc (k + passed)) ls)
          ≡ moved_on k (found_with s (suc passed) ls (next_of rule (suc passed) ls))
      by_case (told x) e h = ap (λ (m : ℕ). found x m ls) (sym e)
      by_case nothing e h = ap (λ (m : ℕ). next_of rule m ls) (sym e) ∙ h
      by_case unclear e h = ap unclear_at (sym e)

  module _ {E : Type 0} (entry : A → ℕ → E) where
    abbrev entries_behind : Found A → List E
    entries_behind (found x line ls) = entry x line ∷ entries_from rule entry line ls
    entries_behind (unclear_at line) = []
    entries_behind end = []

    pub all_by_next : (passed : ℕ) (ls : List (List ℕ)) → entries_from rule entry passed ls ≡ entries_behind (next_of rule passed ls)
    unfolding entries_from
    all_by_next passed [] = ap entries_behind (sym (none_behind passed))
    all_by_next passed (l ∷ ls) = by_case (told_of rule l) (all_by_next (suc passed) ls) ∙ ap entries_behind (sym (by_line passed l ls))
      where
        by_case : (s : Told A) → entries_from rule entry (suc passed) ls ≡ entries_behind (next_of rule (suc passed) ls)
            → entries_with entry s (suc passed) (entries_from rule entry (suc passed) ls)
            ≡ entries_behind (found_with s (suc passed) ls (next_of rule (suc passed) ls))
        by_case (told x) e = refl
        by_case nothing e = e
        by_case unclear e = refl

    -- ---- from the first entry to the last

    pub none_walked : (text : List ℕ) → Walked rule entry text 0 0 0
    none_walked text = record { others = refl; ending = refl; left = omega arith; met = omega arith }

module _ {A E : Type 0} {rule : List ℕ → Reading A} {entry : A → ℕ → E} {text : List ℕ} {at passed n : ℕ} (w : Walked rule entry text at passed n) where
  abbrev es : List E
  es = entries_in rule entry text

  abbrev rest : List (List ℕ)
  rest = lines (drop at text)

  -- so many lines are left, and read, at most
  pub lines_left : passed + length rest ≤ length text
  lines_left = omega (arith, w.left, few_lines text)

  none_left : (ending : Ending) → entries_from rule entry passed rest ≡ [] → ending ≡ ending_from rule passed rest → Ended rule entry text n ending
  none_left ending gone e =
      record { all_met = omega (arith, w.met, length-drop n es, ap length (sym w.others ∙ gone)); ends = e ∙ w.ending }

  -- what comes next
  module _ (f : Found A) (e : f ≡ next_of rule 0 rest) where
    next_is : next_of rule passed rest ≡ moved_on passed f
    next_is =
        ap (λ (k : ℕ). next_of rule k rest) (let z : passed ≡ passed + 0 = omega arith in z)
        ∙ lines_before rule passed 0 rest
        ∙ ap (moved_on passed) (sym e)

    entries_next : entries_from rule entry passed rest ≡ entries_behind rule entry (moved_on passed f)
    entries_next = all_by_next rule entry passed rest ∙ ap (entries_behind rule entry) next_is

    ending_next : ending_from rule passed rest ≡ ending_behind rule (moved_on passed f)
    ending_next = ending_by_next rule passed rest ∙ ap (ending_behind rule) next_is

    counted_next : Counted (length rest) f
    counted_next = subst (λ (k : ℕ). Counted k f) (let z : 0 + length rest ≡ length rest = omega arith in z) (rw (sym e) at (next_counts rule 0 rest))

  -- nothing any more
  pub no_more : end ≡ next_of rule 0 rest → Ended rule entry text n all_read
  no_more e = none_left all_read (entries_next end e) (sym (ending_next end e))

  -- a line that cannot be read
  module _ (line : ℕ) (e : unclear_at line ≡ next_of rule 0 rest) where
    pub unclear_line_lem : line ≤ length rest
    unclear_line_lem = counted_next (unclear_at line) e

    pub at_unclear : Ended rule entry text n (unclear_in (passed + line))
    at_unclear = none_left (unclear_in (passed + line)) (entries_next (unclear_at line) e) (sym (ending_next (unclear_at line) e))

  -- one entry more
  module _ (x : A) (line next : ℕ) (e : found x line (lines (drop next text)) ≡ next_of rule 0 rest) where
    pub lines_read : line + length (lines (drop next text)) ≡ length rest
    lines_read = (counted_next (found x line (lines (drop next text))) e).0

    pub lines_some : 0 < line
    lines_some = (counted_next (found x line (lines (drop next text))) e).1

    left_now : drop n es ≡ entry x (passed + line) ∷ entries_from rule entry (passed + line) (lines (drop next text))
    left_now = sym w.others ∙ entries_next (found x line (lines (drop next text))) e

    pub is_one : n < length es
    is_one = omega (arith, length-drop n es, ap length left_now)

    pub is_met : (d : E) → entry x (passed + line) ≡ get_or es n d
    is_met d = first_same (sym left_now ∙ drop-cons es n d is_one)
      where
        first_same : {y z : E} {ys zs : List E} → y ∷ ys ≡ z ∷ zs → y ≡ z
        first_same h = cc

    pub walked_on : Walked rule entry text next (passed + line) (n + 1)
    walked_on =
        record {
          others = others_same (sym left_now ∙ drop-cons es n (entry x (passed + line)) is_one) ∙ ap (λ (i : ℕ). drop i es) (sym (add-one n));
          ending = sym (ending_next (found x line (lines (drop next text))) e) ∙ w.ending;
          left = omega (arith, w.left, lines_read);
          met = omega (arith, is_one);
        }
      where
        others_same : {y z : E} {ys zs : List E} → y ∷ ys ≡ z ∷ zs → ys ≡ zs
        others_same h = cc
