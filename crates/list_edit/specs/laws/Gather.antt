-- Gathering: the kept stars are kept in their order, only zeros stand behind them, and gathering twice is gathering once.
use Rattle.std.specs.Prelude.{◌≡◌, refl, Bool, true, false, cond, ℕ, zero, suc, ◌*◌, ◌-◌, ◌≤◌}
use Rattle.std.proofs.Math.Path.{ap}
use Rattle.std.proofs.Common.{◌∙◌, arith}
use mathlib.Core.List.{List, [], ◌∷◌, ◌++◌, append-nil}
use Rattle.std.proofs.Math.ListN.{length, replicate, length-append, length-replicate}
use Rattle.list.specs.rules.Record.{width}
use Rattle.list.specs.rules.Stars.{is_kept, kept, nought, list_bytes}
use Rattle.list.specs.laws.Writer.{bytes_join}
use Rattle.list.specs.declared.Star.{Star}
use Rattle.list_edit.specs.rules.Edit.{gathered}
use Rattle.list_edit.specs.laws.Bytes.{empty_bytes}

pub fewer_kept : (rs : List Star) → length (kept rs) ≤ length rs
fewer_kept [] = omega arith
fewer_kept (r ∷ rs) = go (is_kept r) (fewer_kept rs)
  where
    go : (t : Bool) → length (kept rs) ≤ length rs → length (cond t (r ∷ kept rs) (kept rs)) ≤ suc (length rs)
    go true h = omega arith
    go false h = omega arith

pub kept_join : (rs ts : List Star) → kept (rs ++ ts) ≡ kept rs ++ kept ts
kept_join [] ts = refl
kept_join (r ∷ rs) ts = go (is_kept r) (kept_join rs ts)
  where
    go : (t : Bool) → kept (rs ++ ts) ≡ kept rs ++ kept ts
        → cond t (r ∷ kept (rs ++ ts)) (kept (rs ++ ts)) ≡ cond t (r ∷ kept rs) (kept rs) ++ kept ts
    go true e = ap (λ (l : List Star). r ∷ l) e
    go false e = e

kept_empty : (n : ℕ) → kept (replicate n nought) ≡ []
kept_empty zero = refl
kept_empty (suc n) = kept_empty n

kept_twice : (rs : List Star) → kept (kept rs) ≡ kept rs
kept_twice [] = refl
kept_twice (r ∷ rs) = go (is_kept r) refl (kept_twice rs)
  where
    go : (t : Bool) → is_kept r ≡ t → kept (kept rs) ≡ kept rs
        → kept (cond t (r ∷ kept rs) (kept rs)) ≡ cond t (r ∷ kept rs) (kept rs)
    go true e ih = rw e (ap (λ (l : List Star). r ∷ l) ih)
    go false e ih = ih

module _ (rs : List Star) where
  -- the kept before are the kept after
  pub gathered_keeps : kept (gathered rs) ≡ kept rs
  unfolding gathered
  gathered_keeps =
      let m = length rs - length (kept rs) in
      kept_join (kept rs) (replicate m nought)
      ∙ (λ i. kept_twice rs i ++ kept_empty m i)
      ∙ append-nil (kept rs)

  pub gathered_length : length (gathered rs) ≡ length rs
  unfolding gathered
  gathered_length =
      let m = length rs - length (kept rs) in
      length-append (kept rs) (replicate m nought) ∙ omega (arith, length-replicate m nought, fewer_kept rs)

  -- only zero bytes behind them
  pub gathered_bytes : list_bytes (gathered rs) ≡ list_bytes (kept rs) ++ replicate (width * (length rs - length (kept rs))) 0
  unfolding gathered
  gathered_bytes =
      let m = length rs - length (kept rs) in
      bytes_join (kept rs) (replicate m nought) ∙ ap (λ (l : List ℕ). list_bytes (kept rs) ++ l) (empty_bytes m)

  -- a list with the same kept records and as many places is gathered to the same
  gathered_same : (ts : List Star) → kept ts ≡ kept rs → length ts ≡ length rs → gathered ts ≡ gathered rs
  unfolding gathered
  gathered_same ts e h = λ i. e i ++ replicate (h i - length (e i)) nought

pub gathered_twice : (rs : List Star) → gathered (gathered rs) ≡ gathered rs
gathered_twice rs = gathered_same rs (gathered rs) (gathered_keeps rs) (gathered_length rs)
