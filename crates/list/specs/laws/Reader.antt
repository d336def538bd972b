-- The reader from the i-th record's start on: a kept star is shown, an empty place is passed over, and at the end there is none. So a
-- walk shows the kept stars, in their order and each once.
use Rattle.std.specs.Prelude.{◌≡◌, refl, Bool, true, false, List, [], ◌∷◌, ℕ, zero, suc, ◌+◌, ◌*◌, ◌/◌, ◌%◌, ◌≤◌, ◌<◌, length, drop}
use Rattle.std.proofs.Common.{sym, ◌∙◌, drop_of_length-le}
use Rattle.std.proofs.Math.Path.{ap}
use Rattle.std.proofs.Math.Bool.{cond}
use native.Mathlib.Omega.{arith}
use borrow.Author.Tests.{lt-ltb, le-ltb, le-leb, eq-eqb}
use Rattle.quantity.specs.rules.Answer.{Answer, answered}
use Rattle.list.specs.rules.Record.{width}
use Rattle.list.specs.rules.Stars.{is_list, count_of, stars, is_kept, kept, nth}
use Rattle.list.specs.rules.Reader.{Item, item, none, is_offset, empty_before, item_at, item_from, read_rule}
use Rattle.list.specs.notions.Walk.{walk_on, walk}
use Rattle.list.specs.laws.Stars.{length_stars, from}
use Rattle.list.specs.declared.Star.{Star}

module _ (s : List ℕ) (t : is_list s ≡ true) where
  -- at a record's start or the end
  read_from : (i : ℕ) → i ≤ count_of s → read_rule s (i * width) ≡ answered (item_from (stars s) i)
  unfolding read_rule is_offset count_of
  read_from i h =
      let index : i * width / width ≡ i = omega arith in
      simp (t, le-leb (i * width) (length s) (omega arith), eq-eqb (i * width % width) 0 (omega arith), index)

  none_after : (i : ℕ) → count_of s ≤ i → drop i (stars s) ≡ []
  none_after i h = drop_of_length-le (stars s) {i = i} (rw (length_stars s) h)

  pub shows_none : read_rule s (count_of s * width) ≡ answered none
  unfolding empty_before
  shows_none =
      read_from (count_of s) (omega arith)
      ∙ ap (λ (e : ℕ). answered (item_at (stars s) (count_of s + e))) (ap empty_before (none_after (count_of s) (omega arith)))
      ∙ rw (length_stars s, le-ltb (count_of s + 0) (count_of s) (omega arith))

  module _ (i : ℕ) (h : i < count_of s) where
    empties : (b : Bool) → is_kept (nth s i) ≡ b → empty_before (drop i (stars s)) ≡ cond b 0 (suc (empty_before (drop (i + 1) (stars s))))
    unfolding empty_before
    empties b e = ap empty_before (from s i h) ∙ ap (λ (b : Bool). cond b 0 (suc (empty_before (drop (i + 1) (stars s))))) e

    pub shows_star : is_kept (nth s i) ≡ true → read_rule s (i * width) ≡ answered (item (nth s i) ((i + 1) * width))
    shows_star e =
        let here : i + 0 ≡ i = omega arith in
        read_from i (omega arith)
        ∙ ap (λ (e : ℕ). answered (item_at (stars s) (i + e))) (empties true e)
        ∙ ap (λ (j : ℕ). answered (item_at (stars s) j)) here
        ∙ rw (length_stars s, lt-ltb i (count_of s) h)

    pub passes_over : is_kept (nth s i) ≡ false → read_rule s (i * width) ≡ read_rule s ((i + 1) * width)
    passes_over e =
        let next : i + suc (empty_before (drop (i + 1) (stars s))) ≡ i + 1 + empty_before (drop (i + 1) (stars s)) = omega arith in
        read_from i (omega arith)
        ∙ ap (λ (e : ℕ). answered (item_at (stars s) (i + e))) (empties false e)
        ∙ ap (λ (j : ℕ). answered (item_at (stars s) j)) next
        ∙ sym (read_from (i + 1) (omega arith))

  -- from the i-th record's start on, with reads enough, k records being left
  walk_from : (k n i : ℕ) → i + k ≡ count_of s → k < n → walk n s (i * width) ≡ kept (drop i (stars s))
  walk_from k zero i e h = let no : ⊥ = omega arith in absurd no
  walk_from zero (suc n) i e h =
      let end : i ≡ count_of s = omega arith in
      ap (λ (i : ℕ). walk (suc n) s (i * width)) end
      ∙ ap (λ (x : Answer Item). walk_on x (walk n s)) shows_none
      ∙ sym (ap kept (none_after i (omega arith)))
  walk_from (suc k) (suc n) i e h =
      go (is_kept (nth s i)) refl (walk_from k n (i + 1) (omega arith) (omega arith)) (walk_from k (suc n) (i + 1) (omega arith) (omega arith))
    where
      inside : i < count_of s
      inside = omega arith

      rest : List Star
      rest = kept (drop (i + 1) (stars s))

      go : (b : Bool) → is_kept (nth s i) ≡ b → walk n s ((i + 1) * width) ≡ rest → walk (suc n) s ((i + 1) * width) ≡ rest
          → walk (suc n) s (i * width) ≡ kept (drop i (stars s))
      go true b shown passed =
          ap (λ (x : Answer Item). walk_on x (walk n s)) (shows_star i inside b)
          ∙ ap (λ (rs : List Star). nth s i ∷ rs) shown
          ∙ sym (ap kept (from s i inside) ∙ ap (λ (b : Bool). cond b (nth s i ∷ rest) rest) b)
      go false b shown passed =
          ap (λ (x : Answer Item). walk_on x (walk n s)) (passes_over i inside b)
          ∙ passed
          ∙ sym (ap kept (from s i inside) ∙ ap (λ (b : Bool). cond b (nth s i ∷ rest) rest) b)

  pub walk_shows_kept : walk (suc (count_of s)) s 0 ≡ kept (stars s)
  walk_shows_kept = walk_from (count_of s) (suc (count_of s)) 0 (omega arith) (omega arith)
