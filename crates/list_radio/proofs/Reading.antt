-- What the tests of the reader say of its rules.
use mathlib.Core.Path.{◌≡◌, refl, sym, ap, ◌∙◌}
use mathlib.Core.Bool.{Bool, true, false, cond}
use mathlib.Core.List.{List, [], ◌∷◌, ◌++◌}
use Prim.Native.Nat.{ℕ, zero, suc, ◌+◌, ◌-◌, ◌≤◌, ◌<◌}
use native.Mathlib.Omega.{arith}
use lib.IntN.{ℤ}
use lib.ListN.{length, drop, length-drop, get_or}
use borrow.Author.Tests.{ne_eqb, le-leb, lt-leb}
use Rattle.quantity.specs.rules.Answer.{Answer, answered, refused, with, then}
use Rattle.quantity.specs.laws.Steps.{refused_not_answered, stepped, changed, with_refused}
use Rattle.list.specs.declared.Star.{Star}
use Rattle.list.specs.rules.Record.{in_range}
use Rattle.list.specs.rules.Stars.{most_stars}
use Rattle.list_groups.specs.rules.Reading.{Got, read_number, AtOffset, with_offset, read_at}
use Rattle.list_groups.specs.rules.Several.{before, read_all}
use Rattle.list_groups.specs.rules.Fold.{unfolded}
use Rattle.list_groups.specs.notions.Tail.{Found}
use Rattle.list_groups.specs.laws.Tails.{shows, refuses}
use Rattle.list_groups.specs.laws.Several.{none, first, stops}
use Rattle.list_radio.specs.rules.Star.{number_count, star_of, read_star}
use Rattle.list_radio.specs.rules.Radio.{mark, mark_refusal, is_moving, read_count, stars_of}
use Rattle.list_radio.specs.rules.Reader.{ranged_at}
use Rattle.list_radio.specs.laws.Mark.{mark_taken}
use Rattle.list_radio.specs.laws.Order.{numbers_first}

-- ---- the first byte

pub mark_empty : (s : List ℕ) → length s ≡ 0 → 13 ≡ mark_refusal s
unfolding mark_refusal
mark_empty [] h = refl
mark_empty (b ∷ s) h = absurd (omega arith)

pub mark_there : (s : List ℕ) (moving : Bool) → 0 < length s → get_or s 0 0 ≡ mark moving → 0 ≡ mark_refusal s
mark_there [] moving h e = absurd (omega arith)
mark_there (b ∷ s) moving h e = sym (ap (λ (x : ℕ). mark_refusal (x ∷ s)) e ∙ mark_taken moving s)

pub mark_other : (s : List ℕ) → 0 < length s → (get_or s 0 0 ≡ mark true → ⊥) → (get_or s 0 0 ≡ mark false → ⊥) → 11 ≡ mark_refusal s
unfolding mark_refusal
mark_other [] h e f = absurd (omega arith)
mark_other (b ∷ s) h e f = rw (ne_eqb b (mark true) e, ne_eqb b (mark false) f)

pub empty_still : (s : List ℕ) → length s ≡ 0 → false ≡ is_moving s
unfolding is_moving
empty_still [] h = refl
empty_still (b ∷ s) h = absurd (omega arith)

-- ---- the count

module _ (s : List ℕ) (at : ℕ) where
  pub count_refused : (k : ℕ) → read_number (drop at s) ≡ refused k → refused k ≡ read_at read_count s at
  unfolding read_count
  count_refused k e = refuses read_count s at k (rw e)

  module _ (n next : ℕ) (f : Found read_number s at n next) where
    pub few_enough : n ≤ most_stars → answered (record { value = n; offset = next }) ≡ read_at read_count s at
    unfolding read_count
    few_enough h = shows read_count s at n next f.inside (rw (f.read_so, le-leb n most_stars h))

    pub too_many : most_stars < n → refused 8 ≡ read_at read_count s at
    unfolding read_count
    too_many h = refuses read_count s at 8 (rw (f.read_so, lt-leb n most_stars h))

-- ---- a star of its numbers: x, y and z are what the code has of the folded ones
module _ (n a d u v next : ℕ) (x y z : ℤ) (p : x ≡ unfolded d) (q : y ≡ unfolded u) (r : z ≡ unfolded v) where
  abbrev star : Star
  star = record { number = n; asc = a; dec = x; asc_rate = y; dec_rate = z }

  abbrev tested : Star → Bool → Answer (AtOffset Star)
  tested m t = cond t (answered (record { value = m; offset = next })) (refused 9)

  same : star ≡ star_of (n ∷ a ∷ d ∷ u ∷ v ∷ [])
  same = λ i. record { number = n; asc = a; dec = p i; asc_rate = q i; dec_rate = r i }

  pub star_here : in_range star ≡ true → answered (record { value = star; offset = next }) ≡ ranged_at (n ∷ a ∷ d ∷ u ∷ v ∷ []) next
  unfolding ranged_at
  star_here t = ap (tested star) (sym t) ∙ ap (λ (m : Star). tested m (in_range m)) same

  pub star_out : in_range star ≡ false → refused 9 ≡ ranged_at (n ∷ a ∷ d ∷ u ∷ v ∷ []) next
  unfolding ranged_at
  star_out t = ap (tested star) (sym t) ∙ ap (λ (m : Star). tested m (in_range m)) same

-- ---- with yearly changes or without

pub star_as : (p q : Bool) (s : List ℕ) (at : ℕ) → p ≡ q → read_at (read_star p) s at ≡ read_at (read_star q) s at
star_as p q s at e = ap (λ (moving : Bool). read_at (read_star moving) s at) e

pub stars_as : (p q : Bool) (n : ℕ) (bs : List ℕ) → p ≡ q → with length (stars_of p n bs) ≡ with length (stars_of q n bs)
stars_as p q n bs e = ap (λ (moving : Bool). with length (stars_of moving n bs)) e

-- ---- several numbers, each from the offset after the one before

abbrev before_at : ℕ → AtOffset (List ℕ) → AtOffset (List ℕ)
before_at n x = record { value = n ∷ x.value; offset = x.offset }

module _ (s : List ℕ) (at m : ℕ) where
  pub now_refused : (k : ℕ) → read_number (drop at s) ≡ refused k → refused k ≡ read_at (read_all read_number (suc m)) s at
  now_refused k e = refuses (read_all read_number (suc m)) s at k (stops read_number (suc m) (drop at s) k (omega arith) e)

  module _ (n next : ℕ) (f : Found read_number s at n next) where
    read_on : with (before_at n) (read_at (read_all read_number m) s next) ≡ read_at (read_all read_number (suc m)) s at
    unfolding read_at
    read_on =
        offset_before (read_all read_number m (drop next s))
        ∙ ap (λ (k : ℕ). with (with_offset s) (with (before n) (read_all read_number k (drop next s)))) (let q : m ≡ suc m - 1 = omega arith in q)
        ∙ ap (with (with_offset s)) (sym (first read_number (suc m) (drop at s) (record { value = n; rest = drop next s }) (omega arith) f.read_so))
      where
        offset_before : (x : Answer (Got (List ℕ))) → with (before_at n) (with (with_offset s) x) ≡ with (with_offset s) (with (before n) x)
        offset_before (answered g) = refl
        offset_before (refused k) = refl

    pub on_refused : (k : ℕ) → refused k ≡ read_at (read_all read_number m) s next → refused k ≡ read_at (read_all read_number (suc m)) s at
    on_refused k e = ap (with (before_at n)) e ∙ read_on

    pub on_read : (x : AtOffset (List ℕ)) → answered x ≡ read_at (read_all read_number m) s next
        → answered (before_at n x) ≡ read_at (read_all read_number (suc m)) s at
    on_read x e = ap (with (before_at n)) e ∙ read_on

-- the last of them
pub last_read : (s : List ℕ) (at n next : ℕ) → Found read_number s at n next
    → answered (record { value = n ∷ []; offset = next }) ≡ read_at (read_all read_number 1) s at
last_read s at n next f =
    on_read s at 0 n next f (record { value = []; offset = next })
    (shows (read_all read_number 0) s next [] next f.inside (none read_number 0 (drop next s) refl))

-- ---- a star's numbers: three, and two after those

abbrev before_all : List ℕ → Got (List ℕ) → Got (List ℕ)
before_all ns g = record { value = ns ++ g.value; rest = g.rest }

before_none : (x : Answer (Got (List ℕ))) → x ≡ with (before_all []) x
before_none (answered g) = refl
before_none (refused k) = refl

before_more : (n : ℕ) (ns : List ℕ) (x : Answer (Got (List ℕ))) → with (before n) (with (before_all ns) x) ≡ with (before_all (n ∷ ns)) x
before_more n ns (answered g) = refl
before_more n ns (refused k) = refl

-- the first m of them, and then n
some_then : (m n : ℕ) (bs : List ℕ) (g : Got (List ℕ)) → read_all read_number m bs ≡ answered g
    → read_all read_number (m + n) bs ≡ with (before_all g.value) (read_all read_number n g.rest)
unfolding read_all
some_then zero n bs g h =
    ap (λ (k : ℕ). read_all read_number k bs) (let q : 0 + n ≡ n = omega arith in q)
    ∙ before_none (read_all read_number n bs)
    ∙ ap (λ (x : Got (List ℕ)). with (before_all x.value) (read_all read_number n x.rest)) (let q : record { value = []; rest = bs } ≡ g = cc in q)
some_then (suc m) n bs g h =
    let s = stepped (read_number bs) (λ (f : Got ℕ). with (before f.value) (read_all read_number m f.rest)) g h in
    let f = s.value in
    let c = changed (read_all read_number m f.rest) (before f.value) g s.next in
    first read_number (suc m + n) bs f (omega arith) s.first
    ∙ ap (λ (k : ℕ). with (before f.value) (read_all read_number k f.rest)) (let q : suc m + n - 1 ≡ m + n = omega arith in q)
    ∙ ap (with (before f.value)) (some_then m n f.rest c.value c.first)
    ∙ before_more f.value c.value.value (read_all read_number n c.value.rest)
    ∙ ap (λ (x : Got (List ℕ)). with (before_all x.value) (read_all read_number n x.rest)) (sym c.is)

some_refused : (m n : ℕ) (bs : List ℕ) (k : ℕ) → read_all read_number m bs ≡ refused k → read_all read_number (m + n) bs ≡ refused k
unfolding read_all then
some_refused zero n bs k h = absurd (refused_not_answered (sym h))
some_refused (suc m) n bs k h = go (read_number bs) refl (λ (l : List ℕ). some_refused m n l k) h
  where
    go : (x : Answer (Got ℕ)) → read_number bs ≡ x
        → ((l : List ℕ) → read_all read_number m l ≡ refused k → read_all read_number (m + n) l ≡ refused k)
        → then x (λ (f : Got ℕ). with (before f.value) (read_all read_number m f.rest)) ≡ refused k
        → read_all read_number (suc m + n) bs ≡ refused k
    go (answered f) e ih h =
        first read_number (suc m + n) bs f (omega arith) e
        ∙ ap (λ (j : ℕ). with (before f.value) (read_all read_number j f.rest)) (let q : suc m + n - 1 ≡ m + n = omega arith in q)
        ∙ ap (with (before f.value)) (ih f.rest (with_refused (read_all read_number m f.rest) (before f.value) k h))
    go (refused j) e ih h = stops read_number (suc m + n) bs k (omega arith) (e ∙ ap refused (let q : j ≡ k = cc in q))

-- the range after the last number
ranged_shows : (moving : Bool) (s : List ℕ) (at : ℕ) (ns : List ℕ) (next : ℕ) → next ≤ length s
    → read_all read_number (number_count moving) (drop at s) ≡ answered (record { value = ns; rest = drop next s })
    → ranged_at ns next ≡ read_at (read_star moving) s at
unfolding read_at read_star ranged_at
ranged_shows moving s at ns next h e = rw e (go (in_range (star_of ns)))
  where
    go : (t : Bool) → cond t (answered (record { value = star_of ns; offset = next })) (refused 9)
        ≡ with (with_offset s) (cond t (answered (record { value = star_of ns; rest = drop next s })) (refused 9))
    go true =
        ap (λ (n : ℕ). answered (record { value = star_of ns; offset = n }))
        (let q : next ≡ length s - length (drop next s) = omega (arith, length-drop next s) in q)
    go false = refl

module _ (s : List ℕ) (at : ℕ) where
  numbers_refused : (moving : Bool) (k : ℕ) → read_all read_number (number_count moving) (drop at s) ≡ refused k
      → refused k ≡ read_at (read_star moving) s at
  numbers_refused moving k e = refuses (read_star moving) s at k (numbers_first moving (drop at s) k e)

  pub place_refused : (moving : Bool) (k : ℕ) → read_all read_number 3 (drop at s) ≡ refused k → refused k ≡ read_at (read_star moving) s at
  place_refused true k e = numbers_refused true k (some_refused 3 2 (drop at s) k e)
  place_refused false k e = numbers_refused false k e

  module _ (n a d next : ℕ) (f : Found (read_all read_number 3) s at (n ∷ a ∷ d ∷ []) next) where
    pub still_read : (r : Answer (AtOffset Star)) (moving : Bool) → moving ≡ false → r ≡ ranged_at (n ∷ a ∷ d ∷ 0 ∷ 0 ∷ []) next
        → r ≡ read_at (read_star moving) s at
    unfolding ranged_at
    still_read r moving e h =
        h ∙ ranged_shows false s at (n ∷ a ∷ d ∷ []) next f.inside f.read_so ∙ star_as false moving s at (sym e)

    place_read : read_all read_number 5 (drop at s) ≡ with (before_all (n ∷ a ∷ d ∷ [])) (read_all read_number 2 (drop next s))
    place_read = some_then 3 2 (drop at s) (record { value = n ∷ a ∷ d ∷ []; rest = drop next s }) f.read_so

    module _ (moving : Bool) (e : moving ≡ true) where
      pub rates_refused : (k : ℕ) → read_all read_number 2 (drop next s) ≡ refused k → refused k ≡ read_at (read_star moving) s at
      rates_refused k h =
          numbers_refused true k (place_read ∙ ap (with (before_all (n ∷ a ∷ d ∷ []))) h) ∙ star_as true moving s at (sym e)

      pub rates_read : (r : Answer (AtOffset Star)) (u v end : ℕ) → Found (read_all read_number 2) s next (u ∷ v ∷ []) end
          → r ≡ ranged_at (n ∷ a ∷ d ∷ u ∷ v ∷ []) end → r ≡ read_at (read_star moving) s at
      rates_read r u v end g h =
          let all = place_read ∙ ap (with (before_all (n ∷ a ∷ d ∷ []))) g.read_so in
          h ∙ ranged_shows true s at (n ∷ a ∷ d ∷ u ∷ v ∷ []) end g.inside all ∙ star_as true moving s at (sym e)
