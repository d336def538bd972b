-- The parts of a text by their places.
use Rattle.std.specs.Prelude.{ℕ, suc, ◌+◌, ◌-◌, ◌≤◌, ◌<◌, ◌≡◌, refl, Bool, true, false, cond, not, List, [], ◌∷◌, eqb, take, drop}
use Rattle.std.proofs.Math.Path.{sym, ap}
use Rattle.std.proofs.Common.{◌∙◌, true≢false, drop-drop, eq-eqb, ne_eqb}
use native.Mathlib.Omega.{arith}
use Rattle.std.proofs.Math.ListN.{length, length-drop}
use Rattle.std.proofs.Math.Seq.{take-length}
use Rattle.text_fields.specs.declared.Stop.{Stop}
use Rattle.text_fields.specs.declared.Stop.TheVariants.{Blank, Field}
use Rattle.text_fields.specs.rules.Fields.{is_blank, is_stop, before, since, is_bare, field_of, after_field, field_end}

pub before_short : (stop : Stop) (text : List ℕ) → length (before stop text) ≤ length text
unfolding before
before_short stop [] = omega arith
before_short stop (b ∷ text) = by_case (is_stop stop b) (before_short stop text)
  where
    by_case : (t : Bool) → length (before stop text) ≤ length text → length (cond t [] (b ∷ before stop text)) ≤ suc (length text)
    by_case true h = omega arith
    by_case false h = omega (arith, h)

pub take_before : (stop : Stop) (text : List ℕ) → take (length (before stop text)) text ≡ before stop text
unfolding before
take_before stop [] = refl
take_before stop (b ∷ text) = by_case (is_stop stop b) (take_before stop text)
  where
    by_case : (t : Bool) → take (length (before stop text)) text ≡ before stop text
        → take (length (cond t [] (b ∷ before stop text))) (b ∷ text) ≡ cond t [] (b ∷ before stop text)
    by_case true h = refl
    by_case false h = ap (λ (l : List ℕ). b ∷ l) h

pub drop_before : (stop : Stop) (text : List ℕ) → drop (length (before stop text)) text ≡ since stop text
unfolding before since
drop_before stop [] = refl
drop_before stop (b ∷ text) = by_case (is_stop stop b) (drop_before stop text)
  where
    by_case : (t : Bool) → drop (length (before stop text)) text ≡ since stop text
        → drop (length (cond t [] (b ∷ before stop text))) (b ∷ text) ≡ cond t (b ∷ text) (since stop text)
    by_case true h = refl
    by_case false h = h

-- what stands behind so many bytes, as a part of a slice
pub rest : (text : List ℕ) (n : ℕ) → n ≤ length text → take (length text - n) (drop n text) ≡ drop n text
rest text n h =
    ap (λ (k : ℕ). take k (drop n text)) (let e : length text - n ≡ length (drop n text) = omega (arith, length-drop n text) in e)
    ∙ take-length (drop n text)

-- the first field by its places
module _ (text : List ℕ) where
  pub field_start_first : length (before Field text) ≤ field_end text
  unfolding field_end
  field_start_first = omega arith

  pub field_end_short : field_end text ≤ length text
  unfolding field_end field_of
  field_end_short =
      omega (
        arith,
        before_short Field text,
        before_short Blank (since Field text),
        ap length (sym (drop_before Field text)) ∙ length-drop (length (before Field text)) text,
      )

  pub field_part : take (field_end text - length (before Field text)) (drop (length (before Field text)) text) ≡ field_of text
  unfolding field_end field_of
  field_part =
      let k : length (before Field text) + length (before Blank (since Field text)) - length (before Field text)
      ≡ length (before Blank (since Field text)) = omega arith in
      rw (k, drop_before Field text) (take_before Blank (since Field text))

  pub drop_field : drop (field_end text) text ≡ after_field text
  unfolding field_end field_of after_field
  drop_field =
      sym (drop-drop (length (before Blank (since Field text))) (length (before Field text)) text)
      ∙ rw (drop_before Field text) (drop_before Blank (since Field text))

  -- behind it, as a part of a slice
  pub behind_field : take (length text - field_end text) (drop (field_end text) text) ≡ after_field text
  behind_field = rest text (field_end text) field_end_short ∙ drop_field

-- a text is bare where every byte comes before a field
bare_length : (text : List ℕ) → is_bare text ≡ true → length (before Field text) ≡ length text
unfolding before is_bare is_stop
bare_length [] e = refl
bare_length (b ∷ text) e = by_case (is_blank b) (bare_length text) e
  where
    by_case : (t : Bool) → (is_bare text ≡ true → length (before Field text) ≡ length text) → cond t (is_bare text) false ≡ true
        → length (cond (not t) [] (b ∷ before Field text)) ≡ suc (length text)
    by_case true h e = ap suc (h e)
    by_case false h e = cc

field_length : (text : List ℕ) → is_bare text ≡ false → length (before Field text) < length text
unfolding before is_bare is_stop
field_length [] e = absurd (true≢false e)
field_length (b ∷ text) e = by_case (is_blank b) (field_length text) e
  where
    by_case : (t : Bool) → (is_bare text ≡ false → length (before Field text) < length text) → cond t (is_bare text) false ≡ false
        → length (cond (not t) [] (b ∷ before Field text)) < suc (length text)
    by_case true h e = omega (arith, h e)
    by_case false h e = omega arith

pub bare_by_length : (text : List ℕ) → eqb (length (before Field text)) (length text) ≡ is_bare text
bare_by_length text = by_case (is_bare text) refl
  where
    by_case : (t : Bool) → is_bare text ≡ t → eqb (length (before Field text)) (length text) ≡ t
    by_case true e = eq-eqb _ _ (bare_length text e)
    by_case false e =
        ne_eqb (length (before Field text)) (length text)
        (λ (same : length (before Field text) ≡ length text). absurd (omega (arith, field_length text e, same)))
