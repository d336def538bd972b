-- Merging is associative and commutative, and the sheet of no entry is its neutral one: neither order nor grouping matters. Associative
-- and commutative it is of sheets on which largest and place are 0 where nothing is taken in, whatever their places are else, since of
-- two that are alike the lower place wins; and such are the sheets of lists, moved on or merged.
use Rattle.std.specs.Prelude.{◌≡◌, refl, cond, [], ℕ, ◌+◌, ◌<◌, min, max, ltb}
use Rattle.std.proofs.Common.{sym, ◌∙◌, lt-ltb, le-ltb}
use Rattle.std.proofs.Math.Path.{ap}
use native.Mathlib.Omega.{arith}
use Rattle.std.proofs.Math.IntN.{+ℤ_idl, +ℤ_assoc, +ℤ_comm}
use Rattle.residual_sheet.specs.rules.Sheet.{Figures, figures_of, moved_on, merged_place, merged}
use Rattle.residual_sheet.specs.notions.Place.{Some, none, some, Order, less, same, more}
use Rattle.residual_sheet.specs.notions.Sheet.{IsSheet}
use Rattle.residual_sheet.specs.laws.Parts.{some_or_none, compare, is_none, is_some}

-- ---- the place of the larger, the lower of two that are alike

abbrev pick : ℕ → ℕ → ℕ → ℕ → ℕ
pick l p m q = cond (ltb m l) p (cond (ltb l m) q (min p q))

pick_first : (l p m q : ℕ) → m < l → pick l p m q ≡ p
pick_first l p m q h = rw (lt-ltb m l h)

pick_second : (l p m q : ℕ) → l < m → pick l p m q ≡ q
pick_second l p m q h = rw (le-ltb m l (omega arith), lt-ltb l m h)

pick_lower : (l p m q : ℕ) → l ≡ m → pick l p m q ≡ min p q
pick_lower l p m q e = rw (le-ltb m l (omega arith), le-ltb l m (omega arith))

pick_commutes : (l p m q : ℕ) → pick l p m q ≡ pick m q l p
pick_commutes l p m q = by_order (compare l m)
  where
    by_order : Order l m → pick l p m q ≡ pick m q l p
    by_order (less h) = pick_second l p m q h ∙ sym (pick_first m q l p h)
    by_order (same e) = pick_lower l p m q e ∙ omega (arith, pick_lower m q l p (sym e))
    by_order (more h) = pick_first l p m q h ∙ sym (pick_second m q l p h)

min_associates : (p q r : ℕ) → min (min p q) r ≡ min p (min q r)
min_associates p q r = omega arith

module _ (l p m q n r : ℕ) where
  -- each side by its two picks
  left : (a b : ℕ) → pick l p m q ≡ a → pick (max l m) a n r ≡ b → pick (max l m) (pick l p m q) n r ≡ b
  left a b e f = ap (λ (x : ℕ). pick (max l m) x n r) e ∙ f

  right : (a b : ℕ) → pick m q n r ≡ a → pick l p (max m n) a ≡ b → pick l p (max m n) (pick m q n r) ≡ b
  right a b e f = ap (λ (x : ℕ). pick l p (max m n) x) e ∙ f

  pick_associates : pick (max l m) (pick l p m q) n r ≡ pick l p (max m n) (pick m q n r)
  pick_associates = by_order (compare l m) (compare m n) (compare l n)
    where
      by_order : Order l m → Order m n → Order l n → pick (max l m) (pick l p m q) n r ≡ pick l p (max m n) (pick m q n r)
      by_order (less x) (less y) (less z) =
          left q r (pick_second l p m q x) (pick_second (max l m) q n r (omega arith))
          ∙ sym (right r r (pick_second m q n r y) (pick_second l p (max m n) r (omega arith)))
      by_order (less x) (less y) (same z) = absurd (omega arith)
      by_order (less x) (less y) (more z) = absurd (omega arith)
      by_order (less x) (same y) (less z) =
          left q (min q r) (pick_second l p m q x) (pick_lower (max l m) q n r (omega arith))
          ∙ sym (right (min q r) (min q r) (pick_lower m q n r y) (pick_second l p (max m n) (min q r) (omega arith)))
      by_order (less x) (same y) (same z) = absurd (omega arith)
      by_order (less x) (same y) (more z) = absurd (omega arith)
      by_order (less x) (more y) (less z) =
          left q q (pick_second l p m q x) (pick_first (max l m) q n r (omega arith))
          ∙ sym (right q q (pick_first m q n r y) (pick_second l p (max m n) q (omega arith)))
      by_order (less x) (more y) (same z) =
          left q q (pick_second l p m q x) (pick_first (max l m) q n r (omega arith))
          ∙ sym (right q q (pick_first m q n r y) (pick_second l p (max m n) q (omega arith)))
      by_order (less x) (more y) (more z) =
          left q q (pick_second l p m q x) (pick_first (max l m) q n r (omega arith))
          ∙ sym (right q q (pick_first m q n r y) (pick_second l p (max m n) q (omega arith)))
      by_order (same x) (less y) (less z) =
          left (min p q) r (pick_lower l p m q x) (pick_second (max l m) (min p q) n r (omega arith))
          ∙ sym (right r r (pick_second m q n r y) (pick_second l p (max m n) r (omega arith)))
      by_order (same x) (less y) (same z) = absurd (omega arith)
      by_order (same x) (less y) (more z) = absurd (omega arith)
      by_order (same x) (same y) (less z) = absurd (omega arith)
      by_order (same x) (same y) (same z) =
          left (min p q) (min (min p q) r) (pick_lower l p m q x) (pick_lower (max l m) (min p q) n r (omega arith))
          ∙ min_associates p q r
          ∙ sym (right (min q r) (min p (min q r)) (pick_lower m q n r y) (pick_lower l p (max m n) (min q r) (omega arith)))
      by_order (same x) (same y) (more z) = absurd (omega arith)
      by_order (same x) (more y) (less z) = absurd (omega arith)
      by_order (same x) (more y) (same z) = absurd (omega arith)
      by_order (same x) (more y) (more z) =
          left (min p q) (min p q) (pick_lower l p m q x) (pick_first (max l m) (min p q) n r (omega arith))
          ∙ sym (right q (min p q) (pick_first m q n r y) (pick_lower l p (max m n) q (omega arith)))
      by_order (more x) (less y) (less z) =
          left p r (pick_first l p m q x) (pick_second (max l m) p n r (omega arith))
          ∙ sym (right r r (pick_second m q n r y) (pick_second l p (max m n) r (omega arith)))
      by_order (more x) (less y) (same z) =
          left p (min p r) (pick_first l p m q x) (pick_lower (max l m) p n r (omega arith))
          ∙ sym (right r (min p r) (pick_second m q n r y) (pick_lower l p (max m n) r (omega arith)))
      by_order (more x) (less y) (more z) =
          left p p (pick_first l p m q x) (pick_first (max l m) p n r (omega arith))
          ∙ sym (right r p (pick_second m q n r y) (pick_first l p (max m n) r (omega arith)))
      by_order (more x) (same y) (less z) = absurd (omega arith)
      by_order (more x) (same y) (same z) = absurd (omega arith)
      by_order (more x) (same y) (more z) =
          left p p (pick_first l p m q x) (pick_first (max l m) p n r (omega arith))
          ∙ sym (right (min q r) p (pick_lower m q n r y) (pick_first l p (max m n) (min q r) (omega arith)))
      by_order (more x) (more y) (less z) = absurd (omega arith)
      by_order (more x) (more y) (same z) = absurd (omega arith)
      by_order (more x) (more y) (more z) =
          left p p (pick_first l p m q x) (pick_first (max l m) p n r (omega arith))
          ∙ sym (right q p (pick_first m q n r y) (pick_first l p (max m n) q (omega arith)))

-- ---- the neutral one

pub merged_none_first : (f : Figures) → merged (figures_of []) f ≡ f
unfolding figures_of merged
merged_none_first f =
    λ i.
    record {
      count = zero-plus f.count i;
      sum = +ℤ_idl f.sum i;
      squares = zero-plus f.squares i;
      largest = zero-max f.largest i;
      place = f.place;
      aside = zero-plus f.aside i;
    }
  where
    zero-plus : (n : ℕ) → 0 + n ≡ n
    zero-plus n = omega arith

    zero-max : (n : ℕ) → max 0 n ≡ n
    zero-max n = omega arith

-- ---- order

module _ (f g : Figures) (F : IsSheet f) (G : IsSheet g) where
  place_commutes : merged_place f g ≡ merged_place g f
  place_commutes = by_count (some_or_none f.count) (some_or_none g.count)
    where
      by_count : Some f.count → Some g.count → merged_place f g ≡ merged_place g f
      by_count (none a) (none b) = rw (is_none a, is_none b) (G.no_place b ∙ sym (F.no_place a))
      by_count (none a) (some k) = rw (is_none a, is_some k)
      by_count (some h) (none b) = rw (is_some h, is_none b)
      by_count (some h) (some k) = rw (is_some h, is_some k) (pick_commutes f.largest f.place g.largest g.place)

  pub merged_commutes : merged f g ≡ merged g f
  unfolding merged
  merged_commutes =
      λ i.
      record {
        count = plus_commutes f.count g.count i;
        sum = +ℤ_comm f.sum g.sum i;
        squares = plus_commutes f.squares g.squares i;
        largest = max_commutes f.largest g.largest i;
        place = place_commutes i;
        aside = plus_commutes f.aside g.aside i;
      }
    where
      plus_commutes : (m n : ℕ) → m + n ≡ n + m
      plus_commutes m n = omega arith

      max_commutes : (m n : ℕ) → max m n ≡ max n m
      max_commutes m n = omega arith

  -- merged they are a sheet again
  pub merged_is_sheet : IsSheet (merged f g)
  unfolding merged
  merged_is_sheet =
      record {
        no_largest = λ e. omega (arith, F.no_largest (omega arith), G.no_largest (omega arith));
        no_place = λ e. rw (is_none {n = f.count} (omega arith)) (G.no_place (omega arith));
      }

pub moved_is_sheet : (n : ℕ) (f : Figures) → IsSheet f → IsSheet (moved_on n f)
unfolding moved_on
moved_is_sheet n f F = record { no_largest = F.no_largest; no_place = λ e. rw (is_none e) }

pub merged_none_last : (f : Figures) → IsSheet f → merged f (figures_of []) ≡ f
unfolding figures_of
merged_none_last f F =
    merged_commutes f (figures_of []) F (record { no_largest = λ e. refl; no_place = λ e. refl }) ∙ merged_none_first f

-- ---- grouping

module _ (f g h : Figures) (F : IsSheet f) (G : IsSheet g) (H : IsSheet h) where
  place_associates : merged_place (merged f g) h ≡ merged_place f (merged g h)
  unfolding merged
  place_associates = by_count (some_or_none f.count) (some_or_none g.count) (some_or_none h.count)
    where
      by_count : Some f.count → Some g.count → Some h.count → merged_place (merged f g) h ≡ merged_place f (merged g h)
      by_count (none a) (none b) c = rw (is_none {n = f.count + g.count} (omega arith), is_none a, is_none b)
      by_count (none a) (some b) (none c) =
          rw (is_some {n = f.count + g.count} (omega arith), is_some {n = g.count + h.count} (omega arith), is_none a, is_some b, is_none c)
      by_count (none a) (some b) (some c) =
          rw (is_some {n = f.count + g.count} (omega arith), is_some {n = g.count + h.count} (omega arith), is_none a, is_some b, is_some c)
          (ap (λ (l : ℕ). pick l g.place h.largest h.place) (omega (arith, F.no_largest a)))
      by_count (some a) (none b) (none c) =
          rw (is_some {n = f.count + g.count} (omega arith), is_none {n = g.count + h.count} (omega arith), is_some a, is_none b, is_none c)
      by_count (some a) (none b) (some c) =
          rw (is_some {n = f.count + g.count} (omega arith), is_some {n = g.count + h.count} (omega arith), is_some a, is_none b, is_some c)
          (ap (λ (l : ℕ). pick l f.place h.largest h.place) (omega (arith, G.no_largest b))
          ∙ ap (λ (l : ℕ). pick f.largest f.place l h.place) (omega (arith, G.no_largest b)))
      by_count (some a) (some b) (none c) =
          rw (is_some {n = f.count + g.count} (omega arith), is_some {n = g.count + h.count} (omega arith), is_some a, is_some b, is_none c)
          (ap (λ (l : ℕ). pick f.largest f.place l g.place) (omega (arith, H.no_largest c)))
      by_count (some a) (some b) (some c) =
          rw (is_some {n = f.count + g.count} (omega arith), is_some {n = g.count + h.count} (omega arith), is_some a, is_some b, is_some c)
          (pick_associates f.largest f.place g.largest g.place h.largest h.place)

  pub merged_associates : merged (merged f g) h ≡ merged f (merged g h)
  unfolding merged
  merged_associates =
      λ i.
      record {
        count = plus_associates f.count g.count h.count i;
        sum = +ℤ_assoc f.sum g.sum h.sum i;
        squares = plus_associates f.squares g.squares h.squares i;
        largest = max_associates f.largest g.largest h.largest i;
        place = place_associates i;
        aside = plus_associates f.aside g.aside h.aside i;
      }
    where
      plus_associates : (k m n : ℕ) → k + m + n ≡ k + (m + n)
      plus_associates k m n = omega arith

      max_associates : (k m n : ℕ) → max (max k m) n ≡ max k (max m n)
      max_associates k m n = omega arith
