-- The first record with a number, and that there is none.
use Rattle.std.specs.Prelude.{◌≡◌, Bool, ltb, get_or}
use Rattle.std.proofs.Math.Path.{refl}
use Rattle.std.proofs.Math.Bool.{true, false, cond}
use mathlib.Core.List.{List, [], ◌∷◌}
use Prim.Native.Nat.{ℕ, zero, suc, ◌≤◌, ◌<◌}
use native.Mathlib.Omega.{arith}
use Rattle.std.proofs.Math.Dec.{eqb}
use Rattle.std.proofs.Math.ListN.{length}
use borrow.Author.Tests.{eqb-true, eqb-false, ltb-true, ltb-false}
use Rattle.list.specs.rules.Stars.{nought}
use Rattle.list.specs.rules.Find.{index_of}
use Rattle.list.specs.declared.Star.{Star}
use Rattle.list_edit.specs.notions.Edit.{Absent}

module _ (k : ℕ) where
  -- its index is no more than how many there are
  pub index_within : (rs : List Star) → index_of k rs ≤ length rs
  unfolding index_of
  index_within [] = omega arith
  index_within (r ∷ rs) = go (eqb r.number k) (index_within rs)
    where
      go : (t : Bool) → index_of k rs ≤ length rs → cond t 0 (suc (index_of k rs)) ≤ suc (length rs)
      go true h = omega arith
      go false h = omega arith

  -- it has the number
  pub found : (rs : List Star) → index_of k rs < length rs → (get_or rs (index_of k rs) nought).number ≡ k
  unfolding index_of
  found [] h = absurd (omega arith)
  found (r ∷ rs) h = go (eqb r.number k) refl h (found rs)
    where
      go : (t : Bool) → eqb r.number k ≡ t → cond t 0 (suc (index_of k rs)) < suc (length rs)
          → (index_of k rs < length rs → (get_or rs (index_of k rs) nought).number ≡ k)
          → (get_or (r ∷ rs) (cond t 0 (suc (index_of k rs))) nought).number ≡ k
      go true e h ih = eqb-true r.number k e
      go false e h ih = ih (omega arith)

  -- none before it has
  pub none_before : (rs : List Star) (j : ℕ) → j < index_of k rs → (get_or rs j nought).number ≡ k → ⊥
  unfolding index_of
  none_before [] j h e = absurd (omega arith)
  none_before (r ∷ rs) j h e = go (eqb r.number k) refl j h e (none_before rs)
    where
      go : (t : Bool) → eqb r.number k ≡ t → (j : ℕ) → j < cond t 0 (suc (index_of k rs)) → (get_or (r ∷ rs) j nought).number ≡ k
          → ((j : ℕ) → j < index_of k rs → (get_or rs j nought).number ≡ k → ⊥) → ⊥
      go true t j h e ih = absurd (omega arith)
      go false t zero h e ih = eqb-false r.number k t e
      go false t (suc j) h e ih = ih j (omega arith) e

  -- the index of a number that no record has is past the last record, both ways
  pub past_absent : (rs : List Star) → length rs ≤ index_of k rs → Absent k rs
  past_absent rs h j inside e = none_before rs j (omega arith) e

  pub absent_past : (rs : List Star) → Absent k rs → length rs ≤ index_of k rs
  absent_past rs h = go (ltb (index_of k rs) (length rs)) refl
    where
      go : (t : Bool) → ltb (index_of k rs) (length rs) ≡ t → length rs ≤ index_of k rs
      go true e = let i = ltb-true (index_of k rs) (length rs) e in absurd (h (index_of k rs) i (found rs i))
      go false e = ltb-false (index_of k rs) (length rs) e
