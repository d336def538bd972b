-- The pass that checks: i stars are read, and those left stand from p on.
use mathlib.Core.Path.{◌≡◌, refl, sym, ap, ◌∙◌}
use mathlib.Core.Bool.{Bool, true, false, cond}
use mathlib.Core.List.{List, [], ◌∷◌}
use Prim.Native.Nat.{ℕ, suc, ◌+◌, ◌-◌, ◌≤◌, ◌<◌}
use native.Mathlib.Omega.{arith}
use lib.Dec.{eqb}
use lib.ListN.{length, drop, length-drop}
use borrow.Author.Tests.{eq-eqb, ne_eqb}
use Rattle.quantity.specs.rules.Answer.{Answer, answered, refused, with, then}
use Rattle.list.specs.declared.Star.{Star}
use Rattle.list_groups.specs.rules.Reading.{Got}
use Rattle.list_groups.specs.rules.Several.{before, read_all}
use Rattle.list_groups.specs.laws.Several.{none, first, stops}
use Rattle.list_radio.specs.rules.Star.{read_star}
use Rattle.list_radio.specs.rules.Radio.{nothing_over, stars_of}

-- ---- one star more

over_before : (r : Star) (x : Answer (Got (List Star))) → then (with (before r) x) nothing_over ≡ with (λ (rs : List Star). r ∷ rs) (then x nothing_over)
unfolding then
over_before r (answered g) = go (eqb (length g.rest) 0)
  where
    go : (t : Bool) → cond t (answered (r ∷ g.value)) (refused 13) ≡ with (λ (rs : List Star). r ∷ rs) (cond t (answered g.value) (refused 13))
    go true = refl
    go false = refl
over_before r (refused k) = refl

one_more : (moving : Bool) (m : ℕ) (bs : List ℕ) (g : Got Star) → 0 < m → read_star moving bs ≡ answered g
    → stars_of moving m bs ≡ with (λ (rs : List Star). g.value ∷ rs) (stars_of moving (m - 1) g.rest)
unfolding stars_of
one_more moving m bs g h e =
    ap (λ (x : Answer (Got (List Star))). then x nothing_over) (first (read_star moving) m bs g h e)
    ∙ over_before g.value (read_all (read_star moving) (m - 1) g.rest)

-- how many, with i more
abbrev counted : ℕ → Answer (List Star) → Answer ℕ
counted i x = with (λ (rs : List Star). i + length rs) x

counted_none : (x : Answer (List Star)) → with length x ≡ counted 0 x
counted_none (answered rs) = ap answered (let q : length rs ≡ 0 + length rs = omega arith in q)
counted_none (refused k) = refl

counted_more : (i : ℕ) (r : Star) (x : Answer (List Star)) → counted i (with (λ (rs : List Star). r ∷ rs) x) ≡ counted (i + 1) x
counted_more i r (answered rs) = ap answered (let q : i + suc (length rs) ≡ i + 1 + length rs = omega arith in q)
counted_more i r (refused k) = refl

-- ---- the loop

pub record Checking (s : List ℕ) (moving : Bool) (n at p i : ℕ) : Type 0 where
  pub so_far : i ≤ n
  pub same : with length (stars_of moving n (drop at s)) ≡ counted i (stars_of moving (n - i) (drop p s))

pub begin : (s : List ℕ) (moving : Bool) (n at : ℕ) → Checking s moving n at at 0
begin s moving n at =
    record {
      so_far = omega arith;
      same = counted_none (stars_of moving n (drop at s)) ∙ ap (λ (k : ℕ). counted 0 (stars_of moving k (drop at s))) (let q : n ≡ n - 0 = omega arith in q);
    }

module _ (s : List ℕ) (moving : Bool) (n at p i : ℕ) (c : Checking s moving n at p i) where
  pub on : (r : Star) (next : ℕ) → i < n → read_star moving (drop p s) ≡ answered (record { value = r; rest = drop next s }) → Checking s moving n at next (i + 1)
  on r next h e =
      record {
        so_far = omega arith;
        same =
            c.same
            ∙ ap (counted i) (one_more moving (n - i) (drop p s) (record { value = r; rest = drop next s }) (omega arith) e)
            ∙ counted_more i r (stars_of moving (n - i - 1) (drop next s))
            ∙ ap (λ (k : ℕ). counted (i + 1) (stars_of moving k (drop next s))) (let q : n - i - 1 ≡ n - (i + 1) = omega arith in q);
      }

  pub star_bad : (k : ℕ) → i < n → read_star moving (drop p s) ≡ refused k → refused k ≡ with length (stars_of moving n (drop at s))
  unfolding stars_of
  star_bad k h e =
      sym (c.same ∙ ap (λ (x : Answer (Got (List Star))). counted i (then x nothing_over)) (stops (read_star moving) (n - i) (drop p s) k (omega arith) e) ∙ refl)

  left : n ≤ i → stars_of moving (n - i) (drop p s) ≡ nothing_over (record { value = []; rest = drop p s })
  unfolding stars_of
  left h =
      let l = c.so_far in
      ap (λ (x : Answer (Got (List Star))). then x nothing_over) (none (read_star moving) (n - i) (drop p s) (omega arith))

  pub all_good : n ≤ i → length s ≤ p → answered n ≡ with length (stars_of moving n (drop at s))
  all_good h e =
      let l = c.so_far in
      sym
      (c.same
      ∙ ap (counted i) (left h ∙ ap (λ (t : Bool). cond t (answered []) (refused 13)) (eq-eqb (length (drop p s)) 0 (omega (arith, length-drop p s))))
      ∙ ap answered (let q : i + 0 ≡ n = omega arith in q))

  pub bytes_over : n ≤ i → p < length s → refused 13 ≡ with length (stars_of moving n (drop at s))
  bytes_over h e =
      sym (c.same ∙ ap (counted i) (left h ∙ ap (λ (t : Bool). cond t (answered []) (refused 13)) (ne_eqb (length (drop p s)) 0 (λ z. omega (arith, length-drop p s)))))
