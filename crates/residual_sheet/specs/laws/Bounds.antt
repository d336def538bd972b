-- The sheet of slices: count and set aside together are the entries of status 0; the figures stay far below 2^63; and slices in two parts
-- have the two sheets merged.
use Rattle.std.specs.Prelude.{◌≡◌, Bool, true, false, cond, ℕ, suc, ◌+◌, ◌≤◌, eqb, ℤ, length, get_or}
use Rattle.std.proofs.Math.Path.{refl, ap, subst}
use Rattle.std.proofs.Common.{sym, ◌∙◌, arith}
use mathlib.Core.List.{List, [], ◌∷◌, ◌++◌}
use Rattle.std.proofs.Math.IntN.{nat_abs}
use Rattle.double.specs.rules.Operations.{bits}
use Rattle.quantity.specs.rules.Angle.{rad}
use Rattle.lent.specs.rules.Rows.{upto}
use Rattle.lent.specs.laws.Upto.{length_upto}
use Rattle.list.specs.rules.Stars.{most_stars}
use Rattle.list_tally.specs.rules.Tally.{times}
use Rattle.residual_sheet.specs.declared.Residual.{Residual}
use Rattle.residual_sheet.specs.rules.Residual.{residual_of, is_aside, farthest_taken}
use Rattle.residual_sheet.specs.rules.Entry.{Entry, other, aside, taken, entry_of, entry_at, entries_of}
use Rattle.residual_sheet.specs.rules.Sheet.{taken_in, aside_of, Figures, figures_of, moved_on, merged}
use Rattle.residual_sheet.specs.rules.Running.{above_of, below_of, AtMost, running_of}
use Rattle.residual_sheet.specs.laws.Parts.{sheet_in_two_parts}
use Rattle.residual_sheet.specs.laws.Running.{difference_size, sum_in_parts, all_at_most}

-- ---- the entries of status 0

counted_one : (status : ℕ) (x : Residual) (es : List Entry) (n : ℕ) → length (taken_in es) + aside_of es ≡ n
    → length (taken_in (entry_of status x ∷ es)) + aside_of (entry_of status x ∷ es) ≡ cond (eqb status 0) 1 0 + n
counted_one status x es n e = by-status (eqb status 0) (is_aside x)
  where
    by-status : (b c : Bool)
        → length (taken_in (cond b (cond c aside (taken x)) other ∷ es)) + aside_of (cond b (cond c aside (taken x)) other ∷ es) ≡ cond b 1 0 + n
    by-status false c = omega arith
    by-status true true = omega arith
    by-status true false = omega arith

counted_all : (status : List ℕ) (g : ℕ → Residual)
    → (let es = upto (length status) (λ (i : ℕ). entry_of (get_or status i 0) (g i)) in length (taken_in es) + aside_of es) ≡ times 0 status
counted_all [] g = omega arith
counted_all (s ∷ ss) g =
    counted_one s (g 0) (upto (length ss) (λ (i : ℕ). entry_of (get_or ss i 0) (g (suc i)))) (times 0 ss) (counted_all ss (λ (i : ℕ). g (suc i)))

-- ---- the figures of slices

module _ (across : Bool) (status computed measured : List ℕ) where
  abbrev figures : Figures
  figures = figures_of (entries_of across status computed measured)

  pub count_and_aside : figures.count + figures.aside ≡ times 0 status
  unfolding figures_of entry_at
  count_and_aside =
      counted_all status (λ (i : ℕ). residual_of across (rad (bits (get_or computed i 0))) (rad (bits (get_or measured i 0))))

  module _ (few : length status ≤ most_stars) where
    abbrev bound : AtMost most_stars (running_of (entries_of across status computed measured))
    bound = all_at_most across status computed measured few

    pub sum_at_most : nat_abs figures.sum ≤ 3000000000
    unfolding figures_of running_of
    sum_at_most =
        let xs = taken_in (entries_of across status computed measured) in
        subst (λ (z : ℤ). nat_abs z ≤ 3000000000) (sym (sum_in_parts xs))
        (omega (arith, difference_size (above_of xs) (below_of xs), bound.counted, bound.sizes))

    pub squares_at_most : figures.squares ≤ 3000000000000000
    unfolding figures_of running_of
    squares_at_most = omega (arith, bound.counted, bound.squared)

    pub largest_at_most : figures.largest ≤ farthest_taken
    unfolding figures_of running_of
    largest_at_most = bound.large

    pub few_counted : figures.count + figures.aside ≤ most_stars
    unfolding figures_of running_of
    few_counted = bound.counted

    pub place_at_most : figures.place ≤ most_stars
    unfolding figures_of running_of
    place_at_most = bound.placed

-- ---- slices in two parts

module _ (across : Bool) where
  entries_append : (s t c d m n : List ℕ) → length c ≡ length s → length m ≡ length s
      → entries_of across (s ++ t) (c ++ d) (m ++ n) ≡ entries_of across s c m ++ entries_of across t d n
  unfolding entry_at
  entries_append [] t [] d [] n e f = refl
  entries_append [] t (y ∷ c) d m n e f = absurd (omega arith)
  entries_append [] t [] d (z ∷ m) n e f = absurd (omega arith)
  entries_append (x ∷ s) t [] d m n e f = absurd (omega arith)
  entries_append (x ∷ s) t (y ∷ c) d [] n e f = absurd (omega arith)
  entries_append (x ∷ s) t (y ∷ c) d (z ∷ m) n e f =
      ap (λ (es : List Entry). entry_at across (x ∷ s) (y ∷ c) (z ∷ m) 0 ∷ es) (entries_append s t c d m n (omega arith) (omega arith))

  pub slices_in_two_parts : (s t c d m n : List ℕ) → length c ≡ length s → length m ≡ length s
      → figures_of (entries_of across (s ++ t) (c ++ d) (m ++ n))
      ≡ merged (figures_of (entries_of across s c m)) (moved_on (length s) (figures_of (entries_of across t d n)))
  slices_in_two_parts s t c d m n e f =
      ap figures_of (entries_append s t c d m n e f)
      ∙ sheet_in_two_parts (entries_of across s c m) (entries_of across t d n)
      ∙ ap (λ (k : ℕ). merged (figures_of (entries_of across s c m)) (moved_on k (figures_of (entries_of across t d n))))
      (length_upto (length s) (entry_at across s c m))
