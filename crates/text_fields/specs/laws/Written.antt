-- What is written is read: a word in front of a blank or of nothing, and a line with its end, another text behind it, or a last one without.
use Rattle.std.specs.Prelude.{ℕ, ◌≡◌, Bool, true, false, not, eqb}
use Rattle.std.proofs.Math.Path.{refl, ap}
use Rattle.std.proofs.Common.{sym, ◌∙◌, true≢false, arith}
use Rattle.std.proofs.Math.Bool.{cond}
use mathlib.Core.List.{List, [], ◌∷◌, ◌++◌, append-nil}
use Rattle.text_number.specs.rules.Bytes.{line_end, space}
use Rattle.text_fields.specs.declared.Stop.TheVariants.{Hash, Blank, Field}
use Rattle.text_fields.specs.rules.Fields.{is_blank, is_stop, before, since, is_bare, hash, field_of, after_field}
use Rattle.text_fields.specs.rules.Lines.{longer, lines}
use Rattle.text_fields.specs.notions.Plain.{is_plain, IsWord, is_one_line}

-- the first byte of plain ones, and the others
plain_first : (b : ℕ) (word : List ℕ) → is_plain (b ∷ word) ≡ true → (is_blank b ≡ false) × ((eqb b hash ≡ false) × (is_plain word ≡ true))
unfolding is_plain
plain_first b word e = by_case (is_blank b) (eqb b hash) refl refl e
  where
    by_case : (s t : Bool) → is_blank b ≡ s → eqb b hash ≡ t → cond s false (cond t false (is_plain word)) ≡ true
        → (is_blank b ≡ false) × ((eqb b hash ≡ false) × (is_plain word ≡ true))
    by_case true t p q e = absurd (true≢false (sym e))
    by_case false true p q e = absurd (true≢false (sym e))
    by_case false false p q e = (p, (q, e))

-- in front of any text
module _ (text : List ℕ) where
  pub no_comment : (word : List ℕ) → is_plain word ≡ true → before Hash (word ++ text) ≡ word ++ before Hash text
  unfolding before is_stop
  no_comment [] e = refl
  no_comment (b ∷ word) e =
      let h = plain_first b word e in
      ap (λ (t : Bool). cond t [] (b ∷ before Hash (word ++ text))) h.1.0 ∙ ap (λ (l : List ℕ). b ∷ l) (no_comment word h.1.1)

  starts : (word : List ℕ) → IsWord word → since Field (word ++ text) ≡ word ++ text
  unfolding since is_stop
  starts [] w = absurd (let s = w.some in omega (arith, s))
  starts (b ∷ word) w =
      ap (λ (t : Bool). cond (not t) (b ∷ (word ++ text)) (since Field (word ++ text))) (plain_first b word w.plain).0

  pub not_bare : (word : List ℕ) → IsWord word → is_bare (word ++ text) ≡ false
  unfolding is_bare
  not_bare [] w = absurd (let s = w.some in omega (arith, s))
  not_bare (b ∷ word) w = ap (λ (t : Bool). cond t (is_bare (word ++ text)) false) (plain_first b word w.plain).0

  -- up to what stops it
  field_before : (word : List ℕ) → is_plain word ≡ true → before Blank (word ++ text) ≡ word ++ before Blank text
  unfolding before is_stop
  field_before [] e = refl
  field_before (b ∷ word) e =
      let h = plain_first b word e in
      ap (λ (t : Bool). cond t [] (b ∷ before Blank (word ++ text))) h.0 ∙ ap (λ (l : List ℕ). b ∷ l) (field_before word h.1.1)

  field_since : (word : List ℕ) → is_plain word ≡ true → since Blank (word ++ text) ≡ since Blank text
  unfolding since is_stop
  field_since [] e = refl
  field_since (b ∷ word) e =
      let h = plain_first b word e in
      ap (λ (t : Bool). cond t (b ∷ (word ++ text)) (since Blank (word ++ text))) h.0 ∙ field_since word h.1.1

-- a word with a blank behind it, and one with nothing
module _ (word text : List ℕ) (w : IsWord word) where
  pub field_is : field_of (word ++ (space ∷ text)) ≡ word
  unfolding field_of before is_stop is_blank
  field_is = ap (before Blank) (starts (space ∷ text) word w) ∙ field_before (space ∷ text) word w.plain ∙ append-nil word

  pub behind_is : after_field (word ++ (space ∷ text)) ≡ space ∷ text
  unfolding after_field since is_stop is_blank
  behind_is = ap (since Blank) (starts (space ∷ text) word w) ∙ field_since (space ∷ text) word w.plain

module _ (word : List ℕ) (w : IsWord word) where
  pub last_field_is : field_of (word ++ []) ≡ word
  unfolding field_of before
  last_field_is = ap (before Blank) (starts [] word w) ∙ field_before [] word w.plain ∙ append-nil word

  pub nothing_behind : after_field (word ++ []) ≡ []
  unfolding after_field since
  nothing_behind = ap (since Blank) (starts [] word w) ∙ field_since [] word w.plain

-- a blank in front of a field is no part of it
pub blank_passed : (text : List ℕ) → field_of (space ∷ text) ≡ field_of text
unfolding field_of since is_stop is_blank
blank_passed text = refl

pub blank_passed_after : (text : List ℕ) → after_field (space ∷ text) ≡ after_field text
unfolding after_field since is_stop is_blank
blank_passed_after text = refl

-- a line in front of a text, and the last without its end
one_line_first : (b : ℕ) (line : List ℕ) → is_one_line (b ∷ line) ≡ true → (eqb b line_end ≡ false) × (is_one_line line ≡ true)
unfolding is_one_line
one_line_first b line e = by_case (eqb b line_end) refl e
  where
    by_case : (t : Bool) → eqb b line_end ≡ t → cond t false (is_one_line line) ≡ true → (eqb b line_end ≡ false) × (is_one_line line ≡ true)
    by_case true p e = absurd (true≢false (sym e))
    by_case false p e = (p, e)

pub line_in_front : (line text : List ℕ) → is_one_line line ≡ true → lines (line ++ (line_end ∷ text)) ≡ line ∷ lines text
unfolding lines
line_in_front [] text e = refl
line_in_front (b ∷ line) text e =
    let h = one_line_first b line e in
    ap (λ (t : Bool). cond t ([] ∷ lines (line ++ (line_end ∷ text))) (longer b (lines (line ++ (line_end ∷ text))))) h.0
    ∙ ap (longer b) (line_in_front line text h.1)

pub last_line : (b : ℕ) (line : List ℕ) → is_one_line (b ∷ line) ≡ true → lines (b ∷ line) ≡ (b ∷ line) ∷ []
unfolding lines
last_line b [] e = ap (λ (t : Bool). cond t ([] ∷ lines []) (longer b (lines []))) (one_line_first b [] e).0
last_line b (c ∷ line) e =
    let h = one_line_first b (c ∷ line) e in
    ap (λ (t : Bool). cond t ([] ∷ lines (c ∷ line)) (longer b (lines (c ∷ line)))) h.0 ∙ ap (longer b) (last_line c line h.1)
