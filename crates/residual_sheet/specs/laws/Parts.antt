-- The sheet of a list in two parts is the two sheets merged, the second's places moved on by the first's length.
use Rattle.std.specs.Prelude.{◌≡◌, refl, Bool, true, false, cond, List, [], ◌∷◌, ◌++◌, eqb, ℤ, ◌+ℤ◌}
use Rattle.std.proofs.Common.{sym, ap, ◌∙◌, true≢false, arith, eq-eqb, ne_eqb, lt-ltb, le-ltb}
use Prim.Native.Nat.{ℕ, zero, suc, ◌+◌, ◌≤◌, ◌<◌, max}
use Rattle.std.proofs.Math.IntN.{+ℤ_idl, +ℤ_assoc}
use Rattle.std.proofs.Math.ListN.{length, length-append}
use Rattle.residual_sheet.specs.declared.Residual.{Residual}
use Rattle.residual_sheet.specs.rules.Residual.{whole_of}
use Rattle.residual_sheet.specs.rules.Entry.{Entry, other, aside, taken}
use Rattle.residual_sheet.specs.rules.Sheet.{taken_in, aside_of, sum_of, squares_of, largest_of, has_size, first_place, place_of}
use Rattle.residual_sheet.specs.rules.Sheet.{figures_of, moved_on, merged_place, merged}
use Rattle.residual_sheet.specs.notions.Place.{is_there, Some, none, some, Order, less, same, more}
use Rattle.residual_sheet.specs.notions.Sheet.{IsSheet}

-- ---- the cases of numbers

pub some_or_none : (n : ℕ) → Some n
some_or_none zero = none refl
some_or_none (suc n) = some (omega arith)

pub compare : (m n : ℕ) → Order m n
compare zero zero = same refl
compare zero (suc n) = less (omega arith)
compare (suc m) zero = more (omega arith)
compare (suc m) (suc n) = next (compare m n)
  where
    next : Order m n → Order (suc m) (suc n)
    next (less h) = less (omega arith)
    next (same e) = same (ap suc e)
    next (more h) = more (omega arith)

pub is_none : {n : ℕ} → n ≡ 0 → eqb n 0 ≡ true
is_none {n} e = eq-eqb n 0 e

pub is_some : {n : ℕ} → 0 < n → eqb n 0 ≡ false
is_some {n} h = ne_eqb n 0 (λ e. omega arith)

-- ---- what adds up

pub taken_append : (es fs : List Entry) → taken_in (es ++ fs) ≡ taken_in es ++ taken_in fs
taken_append [] fs = refl
taken_append (other ∷ es) fs = taken_append es fs
taken_append (aside ∷ es) fs = taken_append es fs
taken_append (taken x ∷ es) fs = ap (λ (xs : List Residual). x ∷ xs) (taken_append es fs)

pub aside_append : (es fs : List Entry) → aside_of (es ++ fs) ≡ aside_of es + aside_of fs
aside_append [] fs = omega arith
aside_append (other ∷ es) fs = aside_append es fs
aside_append (aside ∷ es) fs = omega (arith, aside_append es fs)
aside_append (taken x ∷ es) fs = aside_append es fs

pub sum_append : (xs ys : List Residual) → sum_of (xs ++ ys) ≡ sum_of xs +ℤ sum_of ys
sum_append [] ys = sym (+ℤ_idl (sum_of ys))
sum_append (x ∷ xs) ys = ap (λ (z : ℤ). whole_of x +ℤ z) (sum_append xs ys) ∙ sym (+ℤ_assoc (whole_of x) (sum_of xs) (sum_of ys))

pub squares_append : (xs ys : List Residual) → squares_of (xs ++ ys) ≡ squares_of xs + squares_of ys
squares_append [] ys = omega arith
squares_append (x ∷ xs) ys = omega (arith, squares_append xs ys)

pub largest_append : (xs ys : List Residual) → largest_of (xs ++ ys) ≡ max (largest_of xs) (largest_of ys)
largest_append [] ys = omega arith
largest_append (x ∷ xs) ys = omega (arith, largest_append xs ys)

-- ---- the place

no_size : (xs : List Residual) → length xs ≡ 0 → largest_of xs ≡ 0
no_size [] e = refl
no_size (x ∷ xs) e = absurd (omega arith)

none_taken : (n : ℕ) (es : List Entry) → length (taken_in es) ≡ 0 → is_there n es ≡ false
none_taken n [] e = refl
none_taken n (other ∷ es) e = none_taken n es e
none_taken n (aside ∷ es) e = none_taken n es e
none_taken n (taken x ∷ es) e = absurd (omega arith)

none_larger : (n : ℕ) (es : List Entry) → largest_of (taken_in es) < n → is_there n es ≡ false
none_larger n [] h = refl
none_larger n (other ∷ es) h = none_larger n es h
none_larger n (aside ∷ es) h = none_larger n es h
none_larger n (taken x ∷ es) h = rw (ne_eqb x.size n (λ e. omega arith)) (none_larger n es (omega arith))

pub largest_there : (es : List Entry) → 0 < length (taken_in es) → is_there (largest_of (taken_in es)) es ≡ true
largest_there [] h = absurd (omega arith)
largest_there (other ∷ es) h = largest_there es h
largest_there (aside ∷ es) h = largest_there es h
largest_there (taken x ∷ es) h = by_size (some_or_none (length (taken_in es))) (compare x.size (largest_of (taken_in es))) (largest_there es)
  where
    here : max x.size (largest_of (taken_in es)) ≡ x.size → is_there (max x.size (largest_of (taken_in es))) (taken x ∷ es) ≡ true
    here e = rw (eq-eqb x.size (max x.size (largest_of (taken_in es))) (sym e))

    by_size : Some (length (taken_in es)) → Order x.size (largest_of (taken_in es))
        → (0 < length (taken_in es) → is_there (largest_of (taken_in es)) es ≡ true) → is_there (max x.size (largest_of (taken_in es))) (taken x ∷ es) ≡ true
    by_size (none e) o later = here (omega (arith, no_size (taken_in es) e))
    by_size (some k) (same e) later = here (omega arith)
    by_size (some k) (more g) later = here (omega arith)
    by_size (some k) (less g) later =
        let m : max x.size (largest_of (taken_in es)) ≡ largest_of (taken_in es) = omega arith in
        ap (λ (n : ℕ). is_there n (taken x ∷ es)) m ∙ rw (ne_eqb x.size (largest_of (taken_in es)) (λ e. omega arith)) (later k)

pub first_within : (n : ℕ) (es : List Entry) → first_place n es ≤ length es
first_within n [] = omega arith
first_within n (e ∷ es) = by_flag (has_size n e) (first_within n es)
  where
    by_flag : (b : Bool) → first_place n es ≤ length es → cond b 0 (suc (first_place n es)) ≤ suc (length es)
    by_flag true h = omega arith
    by_flag false h = omega arith

first_there : (n : ℕ) (es fs : List Entry) → is_there n es ≡ true → first_place n (es ++ fs) ≡ first_place n es
first_there n [] fs h = absurd (true≢false (sym h))
first_there n (e ∷ es) fs h = by_flag (has_size n e) h (first_there n es fs)
  where
    by_flag : (b : Bool) → cond b true (is_there n es) ≡ true → (is_there n es ≡ true → first_place n (es ++ fs) ≡ first_place n es)
        → cond b 0 (suc (first_place n (es ++ fs))) ≡ cond b 0 (suc (first_place n es))
    by_flag true h later = refl
    by_flag false h later = ap suc (later h)

first_after : (n : ℕ) (es fs : List Entry) → is_there n es ≡ false → first_place n (es ++ fs) ≡ length es + first_place n fs
first_after n [] fs h = omega arith
first_after n (e ∷ es) fs h = by_flag (has_size n e) h (first_after n es fs)
  where
    by_flag : (b : Bool) → cond b true (is_there n es) ≡ false → (is_there n es ≡ false → first_place n (es ++ fs) ≡ length es + first_place n fs)
        → cond b 0 (suc (first_place n (es ++ fs))) ≡ suc (length es) + first_place n fs
    by_flag true h later = absurd (true≢false h)
    by_flag false h later = omega (arith, later h)

-- ---- two parts

module _ (es fs : List Entry) where
  abbrev m : ℕ
  m = length (taken_in es)

  abbrev n : ℕ
  n = length (taken_in fs)

  abbrev top : ℕ
  top = largest_of (taken_in es)

  abbrev later : ℕ
  later = largest_of (taken_in fs)

  abbrev placed : ℕ
  placed = first_place (max top later) (es ++ fs)

  all_taken : place_of (es ++ fs) ≡ cond (eqb (m + n) 0) 0 placed
  all_taken =
      rw (taken_append es fs, length-append (taken_in es) (taken_in fs), largest_append (taken_in es) (taken_in fs))

  pub place_append : place_of (es ++ fs) ≡ merged_place (figures_of es) (moved_on (length es) (figures_of fs))
  unfolding figures_of moved_on
  place_append = all_taken ∙ by_count (some_or_none m) (some_or_none n) (compare top later)
    where
      here : max top later ≡ top → 0 < m → placed ≡ first_place top es
      here e h = rw e (first_there top es fs (largest_there es h))

      there : max top later ≡ later → is_there later es ≡ false → placed ≡ length es + first_place later fs
      there e h = rw e (first_after later es fs h)

      by_count : Some m → Some n → Order top later
          → cond (eqb (m + n) 0) 0 placed ≡ merged_place (figures_of es) (moved_on (length es) (figures_of fs))
      by_count (none a) (none b) o = rw (is_none a, is_none b, is_none {n = m + n} (omega arith))
      by_count (none a) (some k) o =
          rw (is_none a, is_some k, is_some {n = m + n} (omega arith)) (there (omega (arith, no_size (taken_in es) a)) (none_taken later es a))
      by_count (some h) (none b) o =
          rw (is_some h, is_none b, is_some {n = m + n} (omega arith)) (here (omega (arith, no_size (taken_in fs) b)) h)
      by_count (some h) (some k) (more g) =
          rw (is_some h, is_some k, is_some {n = m + n} (omega arith), lt-ltb later top g) (here (omega arith) h)
      by_count (some h) (some k) (less g) =
          rw (is_some h, is_some k, is_some {n = m + n} (omega arith), le-ltb later top (omega arith), lt-ltb top later g)
          (there (omega arith) (none_larger later es g))
      by_count (some h) (some k) (same e) =
          rw (is_some h, is_some k, is_some {n = m + n} (omega arith), le-ltb later top (omega arith), le-ltb top later (omega arith))
          (here (omega arith) h ∙ omega (arith, first_within top es))

  pub sheet_in_two_parts : figures_of (es ++ fs) ≡ merged (figures_of es) (moved_on (length es) (figures_of fs))
  unfolding figures_of moved_on merged
  sheet_in_two_parts =
      λ i.
      record {
        count = (ap length (taken_append es fs) ∙ length-append (taken_in es) (taken_in fs)) i;
        sum = (ap sum_of (taken_append es fs) ∙ sum_append (taken_in es) (taken_in fs)) i;
        squares = (ap squares_of (taken_append es fs) ∙ squares_append (taken_in es) (taken_in fs)) i;
        largest = (ap largest_of (taken_append es fs) ∙ largest_append (taken_in es) (taken_in fs)) i;
        place = place_append i;
        aside = aside_append es fs i;
      }

-- every sheet of a list is one
pub list_is_sheet : (es : List Entry) → IsSheet (figures_of es)
unfolding figures_of
list_is_sheet es = record { no_largest = λ e. no_size (taken_in es) e; no_place = λ e. rw (is_none e) }
