-- `list::kept_from` meets its contract: i and the empty places from it on make what they make at the start.
use borrow.Author.Tests.{eq-eqb, ne_eqb, leb-true, leb-false}
use mathlib.Core.Path.{◌≡◌, refl, sym, ap, ◌∙◌}
use mathlib.Core.Bool.{Bool, true, false, cond, not}
use mathlib.Core.List.{List}
use Prim.Native.Nat.{ℕ, suc, ◌+◌, ◌≤◌, ◌<◌, max}
use native.Mathlib.Omega.{arith}
use lib.Dec.{eqb, leb}
use lib.ListN.{drop, drop_of_length-le}
use Rattle.list.specs.rules.Stars.{stars, count_of, nth}
use Rattle.list.specs.rules.Reader.{empty_before}
use Rattle.list.specs.laws.Stars.{from, length_stars}
use Rattle.list.specs.declared.Star.{Star}
use Rattle.list.proofs.kept_from.Goals as goal

-- the empty places from i on
abbrev left : List ℕ → ℕ → ℕ
left s i = empty_before (drop i (stars s))

module _ (s : List ℕ) (i : ℕ) (h : i < count_of s) (r : Star) (e : r ≡ nth s i) where
  step : (b : Bool) → eqb r.number 0 ≡ b → left s i ≡ cond (not b) 0 (suc (left s (i + 1)))
  unfolding empty_before
  step b t =
      ap empty_before (from s i h)
      ∙ ap (λ (b : Bool). cond (not b) 0 (suc (left s (i + 1)))) (ap (λ (x : Star). eqb x.number 0) (sym e) ∙ t)

  hit : (r.number ≡ 0 → ⊥) → left s i ≡ 0
  hit t = step false (ne_eqb _ _ t)

  miss : r.number ≡ 0 → left s i ≡ suc (left s (i + 1))
  miss t = step true (eq-eqb _ _ t)

none : (s : List ℕ) (i : ℕ) → count_of s ≤ i → left s i ≡ 0
unfolding empty_before
none s i h = ap empty_before (drop_of_length-le (stars s) {i = i} (rw length_stars h))

pub returns-then-nth-ne0 : goal.returns-then-nth-ne0
returns-then-nth-ne0 c =
    omega (arith, c.loop-i.invariant, hit _ _ (omega arith) c.nth.result c.nth.ensures c.if-nth-ne0.true)

pub loop-i-preserved : goal.loop-i-preserved
loop-i-preserved c =
    omega (arith, c.loop-i.invariant, miss _ _ (omega arith) c.nth.result c.nth.ensures c.if-nth-ne0.false)

-- i stands past the last star: at the first index that was asked, or at the number of stars
past : (s : List ℕ) (from i : ℕ) → count_of s ≤ i → from ≤ i → (from ≤ count_of s → i ≤ count_of s) → i + left s i ≡ from + left s from
    → max from (count_of s) ≡ from + left s from
past s from i h k e inv = go (leb from (count_of s)) refl
  where
    go : (t : Bool) → leb from (count_of s) ≡ t → max from (count_of s) ≡ from + left s from
    go true t = let at_end = e (leb-true _ _ t) in omega (arith, none s i h)
    go false t = let behind = leb-false from (count_of s) t in omega (arith, none s from (omega arith))

pub returns : goal.returns
returns c =
    let loop = c.loop-i in
    c.max.ensures
    ∙ ap (max c.args.from) c.count-n.ensures
    ∙ past c.args.bytes.now c.args.from loop.i (omega arith) loop.auto.i (λ h. omega arith) loop.invariant
