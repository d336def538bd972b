-- The figures that grow entry by entry are those of the whole list, and none outgrows its 64 bits.
use Rattle.std.specs.Prelude.{◌≡◌, Bool, true, false, cond, List, [], ◌∷◌, ◌++◌, ℕ, zero, suc, ◌+◌, ◌-◌, ◌*◌, ◌≤◌, max, eqb, ltb, ℤ, pos, negsuc, neg_ℤ, nat_abs, ◌+ℤ◌, ◌-ℤ◌, length}
use Rattle.std.proofs.Math.Path.{refl, sym}
use Rattle.std.proofs.Common.{ap, subst, ◌∙◌, mul-le-mul, add-one, arith, ltb→lt, nltb→le, length-append, SFits}
use Rattle.std.proofs.Math.IntN.{+ℤ_idl, +ℤ_idr, +ℤ_assoc, +ℤ_comm, neg_ℤ-+ℤ}
use Rattle.std.specs.Int.Signed.{mag}
use Rattle.std.proofs.Math.ListN.{get_or}
use Rattle.std.specs.Int.{w64}
use borrow.Author.Tests.{eq-eqb, lt-ltb, le-ltb}
use Rattle.double.specs.rules.Operations.{bits}
use Rattle.double.specs.laws.Tests.{by_test}
use Rattle.quantity.specs.rules.Angle.{rad}
use Rattle.lent.specs.rules.Rows.{upto}
use Rattle.lent.specs.laws.Upto.{length_upto}
use Rattle.list.specs.rules.Stars.{most_stars}
use Rattle.residual_sheet.specs.declared.Residual.{Residual}
use Rattle.residual_sheet.specs.declared.Running.{Running}
use Rattle.residual_sheet.specs.rules.Residual.{residual_of, whole_of, farthest_taken, is_aside}
use Rattle.residual_sheet.specs.rules.Entry.{Entry, other, aside, taken, entry_of, entry_at, entries_of}
use Rattle.residual_sheet.specs.rules.Sheet.{taken_in, aside_of, sum_of, squares_of, largest_of, first_place, place_of, figures_of, sheet_of}
use Rattle.residual_sheet.specs.rules.Sheet.{moved_on, merged_place}
use Rattle.residual_sheet.specs.rules.Running.{above, below, above_of, below_of, running_of, place_after, onward, AtMost, sheet_from}
use Rattle.residual_sheet.specs.notions.Place.{Some, none, some, Order, less, same, more}
use Rattle.residual_sheet.specs.notions.Sheet.{AllNear}
use Rattle.residual_sheet.specs.laws.Parts.{some_or_none, compare, is_none, is_some, taken_append, aside_append, squares_append, largest_append}
use Rattle.residual_sheet.specs.laws.Parts.{place_append, first_within}

-- ---- one entry more

above_append : (xs ys : List Residual) → above_of (xs ++ ys) ≡ above_of xs + above_of ys
above_append [] ys = omega arith
above_append (x ∷ xs) ys = omega (arith, above_append xs ys)

below_append : (xs ys : List Residual) → below_of (xs ++ ys) ≡ below_of xs + below_of ys
below_append [] ys = omega arith
below_append (x ∷ xs) ys = omega (arith, below_append xs ys)

module _ (es : List Entry) (x : Residual) where
  abbrev last : List Entry
  last = taken x ∷ []

  abbrev m : ℕ
  m = length (taken_in es)

  abbrev top : ℕ
  top = largest_of (taken_in es)

  one_largest : largest_of (taken_in last) ≡ x.size
  one_largest = omega arith

  place_onward : place_after m top (place_of es) x.size (length es) ≡ place_of (es ++ last)
  unfolding figures_of moved_on
  place_onward = by_count (some_or_none m) (compare top x.size) ∙ sym (place_append es last)
    where
      by_count : Some m → Order top x.size
          → place_after m top (place_of es) x.size (length es) ≡ merged_place (figures_of es) (moved_on (length es) (figures_of last))
      by_count (none a) o = rw (is_none a, one_largest, eq-eqb x.size x.size refl) (omega arith)
      by_count (some h) (less g) =
          rw (is_some h, one_largest, eq-eqb x.size x.size refl, lt-ltb top x.size g, le-ltb x.size top (omega arith)) (omega arith)
      by_count (some h) (same e) =
          rw (is_some h, one_largest, eq-eqb x.size x.size refl, le-ltb top x.size (omega arith), le-ltb x.size top (omega arith))
          (omega (arith, first_within top es))
      by_count (some h) (more g) =
          rw (is_some h, one_largest, le-ltb top x.size (omega arith), lt-ltb x.size top g)

-- an entry that is not taken in leaves all but those set aside
left_out : (es : List Entry) (e : Entry) → taken_in (e ∷ []) ≡ [] → place_of es ≡ place_of (es ++ (e ∷ []))
unfolding figures_of moved_on
left_out es e n = by_count (some_or_none (length (taken_in es))) ∙ sym (place_append es (e ∷ []))
  where
    no-count : eqb (length (taken_in (e ∷ []))) 0 ≡ true
    no-count = is_none {n = length (taken_in (e ∷ []))} (ap length n)

    by_count : Some (length (taken_in es)) → place_of es ≡ merged_place (figures_of es) (moved_on (length es) (figures_of (e ∷ [])))
    by_count (none a) = rw (is_none a, no-count)
    by_count (some h) = rw (is_some h, no-count)

nothing_more : (xs : List Residual) → xs ++ [] ≡ xs
nothing_more [] = refl
nothing_more (x ∷ xs) = ap (λ (ys : List Residual). x ∷ ys) (nothing_more xs)

same_taken : (es : List Entry) (e : Entry) → taken_in (e ∷ []) ≡ [] → taken_in es ≡ taken_in (es ++ (e ∷ []))
same_taken es e n =
    sym (taken_append es (e ∷ []) ∙ ap (λ (ys : List Residual). taken_in es ++ ys) n ∙ nothing_more (taken_in es))

pub grows : (es : List Entry) (e : Entry) → onward (running_of es) (length es) e ≡ running_of (es ++ (e ∷ []))
unfolding running_of
grows es other =
    λ i.
    record {
      count = length (same_taken es other refl i);
      above = above_of (same_taken es other refl i);
      below = below_of (same_taken es other refl i);
      squares = squares_of (same_taken es other refl i);
      largest = largest_of (same_taken es other refl i);
      place = left_out es other refl i;
      aside = more-aside i;
    }
  where
    more-aside : aside_of es ≡ aside_of (es ++ (other ∷ []))
    more-aside = omega (arith, aside_append es (other ∷ []))
grows es aside =
    λ i.
    record {
      count = length (same_taken es aside refl i);
      above = above_of (same_taken es aside refl i);
      below = below_of (same_taken es aside refl i);
      squares = squares_of (same_taken es aside refl i);
      largest = largest_of (same_taken es aside refl i);
      place = left_out es aside refl i;
      aside = more-aside i;
    }
  where
    more-aside : aside_of es + 1 ≡ aside_of (es ++ (aside ∷ []))
    more-aside = omega (arith, aside_append es (aside ∷ []))
grows es (taken x) =
    λ i.
    record {
      count = (more-count ∙ ap length ts) i;
      above = (more-above ∙ ap above_of ts) i;
      below = (more-below ∙ ap below_of ts) i;
      squares = (more-squares ∙ ap squares_of ts) i;
      largest = (more-largest ∙ ap largest_of ts) i;
      place = place_onward es x i;
      aside = more-aside i;
    }
  where
    ts : taken_in es ++ (x ∷ []) ≡ taken_in (es ++ (taken x ∷ []))
    ts = sym (taken_append es (taken x ∷ []))

    more-count : length (taken_in es) + 1 ≡ length (taken_in es ++ (x ∷ []))
    more-count = omega (arith, length-append (taken_in es) (x ∷ []))

    more-above : above_of (taken_in es) + above x ≡ above_of (taken_in es ++ (x ∷ []))
    more-above = omega (arith, above_append (taken_in es) (x ∷ []))

    more-below : below_of (taken_in es) + below x ≡ below_of (taken_in es ++ (x ∷ []))
    more-below = omega (arith, below_append (taken_in es) (x ∷ []))

    more-squares : squares_of (taken_in es) + x.size * x.size ≡ squares_of (taken_in es ++ (x ∷ []))
    more-squares = omega (arith, squares_append (taken_in es) (x ∷ []))

    more-largest : max (largest_of (taken_in es)) x.size ≡ largest_of (taken_in es ++ (x ∷ []))
    more-largest = omega (arith, largest_append (taken_in es) (x ∷ []))

    more-aside : aside_of es ≡ aside_of (es ++ (taken x ∷ []))
    more-aside = omega (arith, aside_append es (taken x ∷ []))

-- ---- how far they grow

pub above_within : (x : Residual) → above x ≤ x.size
above_within x = by_test (λ (n : ℕ). n ≤ x.size) x.minus 0 x.size (λ t. omega arith) (λ t. omega arith)

pub below_within : (x : Residual) → below x ≤ x.size
below_within x = by_test (λ (n : ℕ). n ≤ x.size) x.minus x.size 0 (λ t. omega arith) (λ t. omega arith)

near_sizes : (xs : List Residual) → AllNear xs → above_of xs + below_of xs ≤ length xs * farthest_taken
near_sizes [] n = omega arith
near_sizes (x ∷ xs) n = by_sign x.minus (near_sizes xs n.1)
  where
    by_sign : (b : Bool) → above_of xs + below_of xs ≤ length xs * farthest_taken
        → cond b 0 x.size + above_of xs + (cond b x.size 0 + below_of xs) ≤ suc (length xs) * farthest_taken
    by_sign true h = omega (arith, n.0, h)
    by_sign false h = omega (arith, n.0, h)

near_squares : (xs : List Residual) → AllNear xs → squares_of xs ≤ length xs * (farthest_taken * farthest_taken)
near_squares [] n = omega arith
near_squares (x ∷ xs) n = omega (arith, mul-le-mul n.0 n.0, near_squares xs n.1)

near_largest : (xs : List Residual) → AllNear xs → largest_of xs ≤ farthest_taken
near_largest [] n = omega arith
near_largest (x ∷ xs) n = omega (arith, n.0, near_largest xs n.1)

few_taken : (es : List Entry) → length (taken_in es) + aside_of es ≤ length es
few_taken [] = omega arith
few_taken (other ∷ es) = omega (arith, few_taken es)
few_taken (aside ∷ es) = omega (arith, few_taken es)
few_taken (taken x ∷ es) = omega (arith, few_taken es)

place_within : (es : List Entry) → place_of es ≤ length es
place_within es =
    by_test (λ (n : ℕ). n ≤ length es) (eqb (length (taken_in es)) 0) 0 (first_place (largest_of (taken_in es)) es) (λ t. omega arith)
    (λ t. first_within (largest_of (taken_in es)) es)

pub grown_at_most : (es : List Entry) → AllNear (taken_in es) → length es ≤ most_stars → AtMost (length es) (running_of es)
unfolding running_of
grown_at_most es n h =
    record {
      few = h;
      counted = few_taken es;
      sizes = near_sizes (taken_in es) n;
      squared = near_squares (taken_in es) n;
      large = near_largest (taken_in es) n;
      placed = place_within es;
    }

-- ---- the two parts of the sum

interchange : (a b c d : ℤ) → (a +ℤ b) +ℤ (c +ℤ d) ≡ (a +ℤ c) +ℤ (b +ℤ d)
interchange a b c d =
    +ℤ_assoc a b (c +ℤ d)
    ∙ ap (λ (z : ℤ). a +ℤ z) (sym (+ℤ_assoc b c d) ∙ ap (λ (z : ℤ). z +ℤ d) (+ℤ_comm b c) ∙ +ℤ_assoc c b d)
    ∙ sym (+ℤ_assoc a c (b +ℤ d))

pub whole_in_parts : (x : Residual) → whole_of x ≡ pos (above x) -ℤ pos (below x)
whole_in_parts x = by_sign x.minus
  where
    by_sign : (b : Bool) → cond b (neg_ℤ (pos x.size)) (pos x.size) ≡ pos (cond b 0 x.size) -ℤ pos (cond b x.size 0)
    by_sign true = sym (+ℤ_idl (neg_ℤ (pos x.size)))
    by_sign false = sym (+ℤ_idr (pos x.size))

pub sum_in_parts : (xs : List Residual) → sum_of xs ≡ pos (above_of xs) -ℤ pos (below_of xs)
sum_in_parts [] = refl
sum_in_parts (x ∷ xs) =
    ap (λ (z : ℤ). z +ℤ sum_of xs) (whole_in_parts x)
    ∙ ap (λ (z : ℤ). pos (above x) -ℤ pos (below x) +ℤ z) (sum_in_parts xs)
    ∙ interchange (pos (above x)) (neg_ℤ (pos (below x))) (pos (above_of xs)) (neg_ℤ (pos (below_of xs)))
    ∙ ap (λ (z : ℤ). pos (above x + above_of xs) +ℤ z) (sym (neg_ℤ-+ℤ (pos (below x)) (pos (below_of xs))))

pub grown_is_sheet : (es : List Entry) → sheet_from (running_of es) ≡ sheet_of (figures_of es)
unfolding sheet_from running_of sheet_of figures_of
grown_is_sheet es =
    λ i.
    record {
      count = pos (length (taken_in es));
      sum = sym (sum_in_parts (taken_in es)) i;
      squares = pos (squares_of (taken_in es));
      largest = pos (largest_of (taken_in es));
      place = pos (place_of es);
      aside = pos (aside_of es);
    }

pub difference_size : (a b : ℕ) → nat_abs (pos a -ℤ pos b) ≤ a + b
difference_size a zero = omega arith
difference_size a (suc b) =
    by_test (λ (z : ℤ). nat_abs z ≤ a + suc b) (ltb a (suc b)) (negsuc (suc b - suc a)) (pos (a - suc b)) (λ t. omega (arith, ltb→lt a (suc b) t))
    (λ t. omega arith)

mag_of_size : (z : ℤ) → mag z ≤ nat_abs z
mag_of_size (pos n) = omega arith
mag_of_size (negsuc n) = omega arith

pub difference_fits : (a b : ℕ) → a + b ≤ 3000000000 → SFits w64 (pos a -ℤ pos b)
difference_fits a b h =
    record { sfits = omega (arith, h, difference_size a b, mag_of_size (pos a -ℤ pos b)) }

-- ---- the entries of slices

upto_last : {A : Type 0} (n : ℕ) (f : ℕ → A) → upto (suc n) f ≡ upto n f ++ (f n ∷ [])
upto_last zero f = refl
upto_last (suc n) f = ap (λ (l : List _). f zero ∷ l) (upto_last n (λ (i : ℕ). f (suc i)))

near_entry : (status : ℕ) (x : Residual) (es : List Entry) → AllNear (taken_in es) → AllNear (taken_in (entry_of status x ∷ es))
near_entry status x es n = by-status (eqb status 0) (is_aside x) refl
  where
    by-status : (b c : Bool) → is_aside x ≡ c → AllNear (taken_in (cond b (cond c aside (taken x)) other ∷ es))
    by-status false c e = n
    by-status true true e = n
    by-status true false e = (nltb→le farthest_taken x.size (rw e tt), n)

pub near_entries : (n : ℕ) (s : ℕ → ℕ) (g : ℕ → Residual) → AllNear (taken_in (upto n (λ (i : ℕ). entry_of (s i) (g i))))
near_entries zero s g = tt
near_entries (suc n) s g =
    near_entry (s zero) (g zero) (upto n (λ (i : ℕ). entry_of (s (suc i)) (g (suc i)))) (near_entries n (λ (i : ℕ). s (suc i)) (λ (i : ℕ). g (suc i)))

-- the figures after n entries, each by a rule of its place
pub entry_more : (n : ℕ) (f : ℕ → Entry) → onward (running_of (upto n f)) n (f n) ≡ running_of (upto (n + 1) f)
entry_more n f =
    ap (λ (k : ℕ). onward (running_of (upto n f)) k (f n)) (sym (length_upto n f))
    ∙ grows (upto n f) (f n)
    ∙ ap running_of (sym (upto_last n f))
    ∙ ap (λ (k : ℕ). running_of (upto k f)) (sym (add-one n))

pub entries_at_most : (n : ℕ) (s : ℕ → ℕ) (g : ℕ → Residual) → n ≤ most_stars → AtMost n (running_of (upto n (λ (i : ℕ). entry_of (s i) (g i))))
entries_at_most n s g h =
    let f : ℕ → Entry = λ (i : ℕ). entry_of (s i) (g i) in
    subst (λ (k : ℕ). AtMost k (running_of (upto n f))) (length_upto n f)
    (grown_at_most (upto n f) (near_entries n s g) (omega (arith, h, length_upto n f)))

-- what so few entries come to, all of them come to at most
pub few_at_most : (n : ℕ) (r : Running) → AtMost n r → AtMost most_stars r
few_at_most n r b =
    record {
      few = omega arith;
      counted = omega (arith, b.few, b.counted);
      sizes = b.sizes;
      squared = b.squared;
      large = b.large;
      placed = omega (arith, b.few, b.placed);
    }

-- those of slices
module _ (across : Bool) (status computed measured : List ℕ) where
  abbrev first : ℕ → List Entry
  first n = upto n (entry_at across status computed measured)

  pub one_more : (n : ℕ) → onward (running_of (first n)) n (entry_at across status computed measured n) ≡ running_of (first (n + 1))
  one_more n = entry_more n (entry_at across status computed measured)

  pub first_at_most : (n : ℕ) → n ≤ most_stars → AtMost n (running_of (first n))
  unfolding entry_at
  first_at_most n h =
      entries_at_most n (λ (i : ℕ). get_or status i 0)
      (λ (i : ℕ). residual_of across (rad (bits (get_or computed i 0))) (rad (bits (get_or measured i 0)))) h

  pub all_at_most : length status ≤ most_stars → AtMost most_stars (running_of (entries_of across status computed measured))
  all_at_most h = few_at_most (length status) _ (first_at_most (length status) h)
