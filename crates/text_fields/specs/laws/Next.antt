-- One line further on the way to the next that says something; and what a rule reads of it where it stands.
use Rattle.std.specs.Prelude.{ℕ, suc, ◌+◌, ◌-◌, ◌≤◌, ◌<◌, ◌≡◌, true, false, drop, refl, Option, Some, None, Result, Ok, Err}
use Rattle.std.proofs.Math.Path.{sym, ap}
use Rattle.std.proofs.Common.{◌∙◌, add-one, drop-drop, take-take}
use Rattle.std.proofs.Math.Bool.{cond}
use mathlib.Core.List.{List}
use native.Mathlib.Omega.{arith}
use Rattle.std.proofs.Math.ListN.{length, take, length-drop}
use Rattle.text_whole.specs.rules.Unsigned.{Reading}
use Rattle.text_fields.specs.declared.Said.{Said}
use Rattle.text_fields.specs.declared.Unclear.{Unclear}
use Rattle.text_fields.specs.declared.Stop.TheVariants.{LineEnd, Hash}
use Rattle.text_fields.specs.rules.Fields.{before, is_bare}
use Rattle.text_fields.specs.rules.Lines.{lines, line_length, first_said}
use Rattle.text_fields.specs.rules.Next.{found, next_said, shown_said, SaidNext, read_by, next_of}
use Rattle.text_fields.specs.rules.Walk.{Told, shown_line}
use Rattle.text_fields.specs.laws.Fields.{before_short, take_before}
use Rattle.text_fields.specs.laws.Lines.{first_and_rest}

-- what the first line from an offset on says, by its places
module _ (text : List ℕ) (at : ℕ) where
  pub said_short : at ≤ length text → at + length (first_said (drop at text)) ≤ length text
  unfolding first_said
  said_short h =
      let line = before LineEnd (drop at text) in
      omega (arith, before_short Hash line, before_short LineEnd (drop at text), length-drop at text)

  pub said_part : take (at + length (first_said (drop at text)) - at) (drop at text) ≡ first_said (drop at text)
  unfolding first_said
  said_part =
      let line = before LineEnd (drop at text) in
      let said = before Hash line in
      ap (λ (k : ℕ). take k (drop at text)) (let e : at + length said - at ≡ length said = omega arith in e)
      ∙ sym (take-take (length said) (length line) (drop at text) (before_short Hash line))
      ∙ ap (take (length said)) (take_before LineEnd (drop at text))
      ∙ take_before Hash line

module _ (text : List ℕ) (at passed : ℕ) (h : at < length text) where
  further : next_said passed (lines (drop at text))
      ≡ cond (is_bare (first_said (drop at text)))
      (next_said (suc passed) (lines (drop (at + line_length (drop at text)) text)))
      (found (first_said (drop at text)) (suc passed) (lines (drop (at + line_length (drop at text)) text)))
  unfolding next_said first_said
  further =
      ap (next_said passed) (first_and_rest (drop at text) (omega (arith, length-drop at text)))
      ∙ ap
      (λ (ls : List (List ℕ)).
      cond (is_bare (before Hash (before LineEnd (drop at text)))) (next_said (suc passed) ls)
      (found (before Hash (before LineEnd (drop at text))) (suc passed) ls))
      (ap lines (drop-drop (line_length (drop at text)) at text))

  -- a line that is passed over, and one that is not
  module _ (next : ℕ) (n : next ≡ at + line_length (drop at text)) where
    pub goes_on : is_bare (first_said (drop at text)) ≡ true → next_said (passed + 1) (lines (drop next text)) ≡ next_said passed (lines (drop at text))
    goes_on e = rw (n, add-one passed) (sym (further ∙ rw e))

    pub stops : (said : List ℕ) → said ≡ first_said (drop at text) → is_bare (first_said (drop at text)) ≡ false
        → found said (passed + 1) (lines (drop next text)) ≡ next_said passed (lines (drop at text))
    stops said s e = rw (n, s, add-one passed) (sym (further ∙ rw e))

-- the bytes that a call answers, read by a rule
pub next_read : {A : Type 0} (rule : List ℕ → Reading A) (text : List ℕ) (at : ℕ) (r s : Option Said) → r ≡ s → SaidNext text at r
    → read_by rule (shown_said text s) ≡ next_of rule 0 (lines (drop at text))
unfolding next_of
next_read rule text at r s e h = ap (λ (t : Option Said). read_by rule (shown_said text t)) (sym e) ∙ ap (read_by rule) h.says

-- ---- a line that is shown is the only one

shown_line_loses_nothing : {A : Type 0} (r s : Result (Option A) Unclear) → shown_line r ≡ shown_line s → r ≡ s
shown_line_loses_nothing (Ok (Some x)) (Ok (Some y)) e = cc
shown_line_loses_nothing (Ok (Some x)) (Ok None) e = cc
shown_line_loses_nothing (Ok (Some x)) (Err u) e = cc
shown_line_loses_nothing (Ok None) (Ok (Some y)) e = cc
shown_line_loses_nothing (Ok None) (Ok None) e = cc
shown_line_loses_nothing (Ok None) (Err u) e = cc
shown_line_loses_nothing (Err t) (Ok (Some y)) e = cc
shown_line_loses_nothing (Err t) (Ok None) e = cc
shown_line_loses_nothing (Err t) (Err u) e = refl

-- a promise over it fixes its answer
pub one_line : {A : Type 0} {a : Told A} (r s : Result (Option A) Unclear) → shown_line r ≡ a → shown_line s ≡ a → r ≡ s
one_line r s p q = shown_line_loses_nothing r s (p ∙ sym q)
