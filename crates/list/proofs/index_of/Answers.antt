-- `list::index_of` meets its contract: what is found in the stars that are left, i after the first, is what is found.
use borrow.Author.Tests.{eq-eqb, ne_eqb}
use mathlib.Core.Path.{◌≡◌, sym, ap, ◌∙◌}
use mathlib.Core.Bool.{Bool, true, false, cond}
use mathlib.Core.List.{List}
use Prim.Native.Nat.{ℕ, suc, ◌+◌, ◌≤◌, ◌<◌}
use native.Mathlib.Omega.{arith}
use lib.Dec.{eqb}
use lib.ListN.{drop, drop_of_length-le}
use Rattle.list.specs.rules.Stars.{stars, count_of, nth}
use Rattle.list.specs.rules.Find.{index_of}
use Rattle.list.specs.laws.Stars.{from, length_stars}
use Rattle.list.specs.declared.Star.{Star}
use Rattle.list.proofs.index_of.Goals as goal

-- what is found in the stars from i on
abbrev left : List ℕ → ℕ → ℕ → ℕ
left s number i = index_of number (drop i (stars s))

module _ (s : List ℕ) (number i : ℕ) (h : i < count_of s) (r : Star) (e : r ≡ nth s i) where
  step : (b : Bool) → eqb r.number number ≡ b → left s number i ≡ cond b 0 (suc (left s number (i + 1)))
  unfolding index_of
  step b t =
      ap (index_of number) (from s i h)
      ∙ ap (λ (b : Bool). cond b 0 (suc (left s number (i + 1)))) (ap (λ (x : Star). eqb x.number number) (sym e) ∙ t)

  hit : r.number ≡ number → left s number i ≡ 0
  hit t = step true (eq-eqb _ _ t)

  miss : (r.number ≡ number → ⊥) → left s number i ≡ suc (left s number (i + 1))
  miss t = step false (ne_eqb _ _ t)

none : (s : List ℕ) (number i : ℕ) → count_of s ≤ i → left s number i ≡ 0
unfolding index_of
none s number i h = ap (index_of number) (drop_of_length-le (stars s) {i = i} (rw length_stars h))

pub returns-then-nth-number : goal.returns-then-nth-number
returns-then-nth-number c =
    omega (arith, c.loop-i.invariant, hit _ _ _ (omega arith) c.nth.result c.nth.ensures c.if-nth-number.true)

pub loop-i-preserved : goal.loop-i-preserved
loop-i-preserved c =
    omega (arith, c.loop-i.invariant, miss _ _ _ (omega arith) c.nth.result c.nth.ensures c.if-nth-number.false)

pub returns : goal.returns
returns c = omega (arith, c.loop-i.invariant, none c.args.bytes.now c.args.number c.loop-i.i (omega arith))
