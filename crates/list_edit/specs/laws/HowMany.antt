-- How many stars pass a test, where one is changed, and where at most one has a number.
use Rattle.std.specs.Prelude.{◌≡◌, Bool, ◌&&◌, set, get_or, replicate}
use Rattle.std.proofs.Math.Path.{refl, ap}
use Rattle.std.proofs.Math.Bool.{true, false, cond}
use mathlib.Core.List.{List, [], ◌∷◌, ◌++◌}
use Prim.Native.Nat.{ℕ, zero, suc, ◌+◌, ◌≤◌, ◌<◌}
use Rattle.std.proofs.Common.{le_of_suc-le-suc}
use native.Mathlib.Omega.{arith}
use Rattle.std.proofs.Math.Dec.{eqb}
use Rattle.std.proofs.Math.ListN.{length}
use Rattle.list.specs.rules.Stars.{nought}
use Rattle.list.specs.rules.Find.{index_of}
use Rattle.list.specs.declared.Star.{Star}
use Rattle.list_edit.specs.notions.Ledger.{without, one, how_many, has_number, both}

module _ (p : Star → Bool) where
  -- one record changed
  pub how_many_set : (rs : List Star) (i : ℕ) (r : Star) → i < length rs
      → how_many p (set rs i r) + one (p (get_or rs i nought)) ≡ how_many p rs + one (p r)
  how_many_set [] i r h = absurd (omega arith)
  how_many_set (q ∷ rs) zero r h = omega arith
  how_many_set (q ∷ rs) (suc i) r h = omega (arith, how_many_set rs i r (le_of_suc-le-suc h))

  pub how_many_join : (rs ts : List Star) → how_many p (rs ++ ts) ≡ how_many p rs + how_many p ts
  how_many_join [] ts = omega arith
  how_many_join (r ∷ rs) ts = omega (arith, how_many_join rs ts)

  -- none of so many empty places
  pub how_many_empty : p nought ≡ false → (n : ℕ) → how_many p (replicate n nought) ≡ 0
  how_many_empty e zero = refl
  how_many_empty e (suc n) = let q = ap one e in omega (arith, q, how_many_empty e n)

module _ (p q : Star → Bool) where
  pub how_many_same : ((r : Star) → p r ≡ q r) → (rs : List Star) → how_many p rs ≡ how_many q rs
  how_many_same h [] = refl
  how_many_same h (r ∷ rs) = λ i. one (h r i) + how_many_same h rs i

  part : (a b : Bool) → one (a && b) ≤ one b
  part true b = omega arith
  part false b = omega arith

  -- fewer pass both
  pub fewer : (rs : List Star) → how_many (both p q) rs ≤ how_many q rs
  fewer [] = omega arith
  fewer (r ∷ rs) = omega (arith, part (p r) (q r), fewer rs)

-- ---- at most one has the mark

both_right : (a b : Bool) → b ≡ true → one (a && b) ≡ one a
both_right true b e = ap one e
both_right false b e = refl

both_wrong : (a b : Bool) → b ≡ false → one (a && b) ≡ 0
both_wrong true b e = ap one e
both_wrong false b e = refl

off : (b : Bool) → one b ≡ 0 → b ≡ false
off true h = absurd (omega arith)
off false h = refl

module _ (p c : Star → Bool) where
  some : (rs : List Star) (i : ℕ) → i < length rs → c (get_or rs i nought) ≡ true → 1 ≤ how_many c rs
  some [] i h e = absurd (omega arith)
  some (r ∷ rs) zero h e = let q = ap one e in omega (arith, q)
  some (r ∷ rs) (suc i) h e = omega (arith, some rs i (le_of_suc-le-suc h) e)

  -- those that have it and pass are that one if it passes
  pub single : (rs : List Star) (i : ℕ) → how_many c rs ≤ 1 → i < length rs → c (get_or rs i nought) ≡ true
      → how_many (both p c) rs ≡ one (p (get_or rs i nought))
  single [] i l h e = absurd (omega arith)
  single (r ∷ rs) zero l h e =
      let q = ap one e in
      omega (arith, q, both_right (p r) (c r) e, fewer p c rs)
  single (r ∷ rs) (suc i) l h e =
      let s = some rs i (le_of_suc-le-suc h) e in
      let n = off (c r) (omega arith) in
      omega (arith, both_wrong (p r) (c r) n, single rs i (omega arith) (le_of_suc-le-suc h) e)

-- a star taken out by its number
module _ (p : Star → Bool) (k : ℕ) where
  pub how_many_without : (rs : List Star) → how_many (has_number k) rs ≤ 1
      → how_many p (without k rs) + how_many (both p (has_number k)) rs ≡ how_many p rs
  how_many_without [] h = refl
  how_many_without (r ∷ rs) h = go (eqb r.number k) refl (how_many_without rs)
    where
      go : (t : Bool) → eqb r.number k ≡ t
          → (how_many (has_number k) rs ≤ 1 → how_many p (without k rs) + how_many (both p (has_number k)) rs ≡ how_many p rs)
          → how_many p (cond t rs (r ∷ without k rs)) + (one (p r && has_number k r) + how_many (both p (has_number k)) rs)
          ≡ one (p r) + how_many p rs
      go true e ih =
          let q = ap one e in
          omega (arith, q, h, both_right (p r) (has_number k r) e, fewer p (has_number k) rs)
      go false e ih =
          let q = ap one e in
          omega (arith, h, q, both_wrong (p r) (has_number k r) e, ih (omega (arith, h, q)))

-- ---- none has the number, both ways

module _ (k : ℕ) where
  pub past_none : (rs : List Star) → length rs ≤ index_of k rs → how_many (has_number k) rs ≡ 0
  unfolding index_of
  past_none [] h = refl
  past_none (r ∷ rs) h = go (eqb r.number k) refl h (past_none rs)
    where
      go : (t : Bool) → eqb r.number k ≡ t → suc (length rs) ≤ cond t 0 (suc (index_of k rs))
          → (length rs ≤ index_of k rs → how_many (has_number k) rs ≡ 0) → one (has_number k r) + how_many (has_number k) rs ≡ 0
      go true e h ih = absurd (omega arith)
      go false e h ih = let q = ap one e in omega (arith, q, ih (omega arith))

  pub none_past : (rs : List Star) → how_many (has_number k) rs ≡ 0 → length rs ≤ index_of k rs
  unfolding index_of
  none_past [] h = omega arith
  none_past (r ∷ rs) h = go (eqb r.number k) h (none_past rs)
    where
      go : (t : Bool) → one t + how_many (has_number k) rs ≡ 0 → (how_many (has_number k) rs ≡ 0 → length rs ≤ index_of k rs)
          → suc (length rs) ≤ cond t 0 (suc (index_of k rs))
      go true h ih = absurd (omega arith)
      go false h ih = omega (arith, ih (omega arith))
