-- A loop whose pass i writes text i writes the texts one after the other.
use Rattle.std.specs.Prelude.{ℕ, ◌+◌, ◌≤◌, ◌<◌, min, ◌≡◌, List, length}
use Rattle.std.proofs.Common.{sym, ap, add-one, arith}
use Rattle.lent.specs.rules.Writing.{Wrote}
use Rattle.lent.specs.rules.Texts.{texts}
use Rattle.lent.specs.notions.Walk.{Walked}
use Rattle.lent.specs.laws.Writing.{after, same, nothing, length_kept}

module _ {old : List ℕ} {at n : ℕ} {f : ℕ → List ℕ} where
  pub begun : {offset : ℕ} → offset ≡ min at (length old) → Walked old at n f old offset 0
  begun e = record { passes = omega arith; wrote = nothing _ _ _ e }

  pub passed : {new new' : List ℕ} {offset offset' i : ℕ} → Walked old at n f new offset i → i < n → Wrote new offset (f i) new' offset'
      → Walked old at n f new' offset' (i + 1)
  passed {i = i} w h t =
      record { passes = omega arith; wrote = same (ap (λ (k : ℕ). texts k f) (sym (add-one i))) (after w.wrote t) }

  pub ended : {new : List ℕ} {offset i : ℕ} → Walked old at n f new offset i → n ≤ i → Wrote old at (texts n f) new offset
  ended {i = i} w h = same (ap (λ (k : ℕ). texts k f) (let e : i ≡ n = omega (arith, w.passes) in e)) w.wrote

  -- the slice's length
  pub stays : {new : List ℕ} {offset i : ℕ} → Walked old at n f new offset i → length new ≡ length old
  stays w = length_kept w.wrote
