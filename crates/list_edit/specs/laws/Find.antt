-- Find says of a gathered list what it said before, the index apart.
use Rattle.std.specs.Prelude.{◌≡◌, refl, Bool, true, false, cond, not, List, [], ◌∷◌, ◌++◌, ℕ, zero, suc, ◌-◌, ◌<◌, eqb, ltb, get_or, replicate, Ok}
use Rattle.std.proofs.Math.Path.{sym}
use Rattle.std.proofs.Common.{ap, ◌∙◌, arith, ne_eqb, eqb-true, lt-ltb, le-ltb, ltb-true, ltb-false}
use Rattle.std.proofs.Math.ListN.{length}
use Rattle.std.proofs.lemmas.Bool.{eqb-false}
use Rattle.quantity.specs.rules.Answer.{Answer, answered, refused, with}
use Rattle.list.specs.rules.Record.{in_range}
use Rattle.list.specs.rules.Stars.{is_list, stars, kept, nought, Bytes}
use Rattle.list.specs.rules.Find.{index_of, entry, entry_at, find_in, find_rule}
use Rattle.list.specs.declared.Star.{Star}
use Rattle.list_edit.specs.rules.Edit.{gathered, gather_rule, Edit}
use Rattle.list_edit.specs.notions.Edit.{star_of}
use Rattle.list_edit.specs.laws.Fitting.{list_by_length}
use Rattle.list_edit.specs.laws.Calls.{stars_gathered, gather_as_long}

-- the first with the number as find answers it
abbrev first_of : ℕ → List Star → Answer Star
first_of k [] = refused 10
first_of k (r ∷ rs) = cond (eqb r.number k) (with star_of (entry 0 r)) (first_of k rs)

index_apart : (i : ℕ) (r : Star) → with star_of (entry i r) ≡ with star_of (entry 0 r)
index_apart i r = go (in_range r)
  where
    go : (t : Bool) → with star_of (cond t (answered (record { index = i; star = r })) (refused 9))
        ≡ with star_of (cond t (answered (record { index = 0; star = r })) (refused 9))
    go true = refl
    go false = refl

first_found : (k : ℕ) (rs : List Star) → with star_of (entry_at rs (index_of k rs)) ≡ first_of k rs
unfolding index_of
first_found k [] = refl
first_found k (r ∷ rs) = go (eqb r.number k) (first_found k rs)
  where
    later : (t : Bool) → ltb (index_of k rs) (length rs) ≡ t
        → with star_of (cond t (entry (index_of k rs) (get_or rs (index_of k rs) nought)) (refused 10)) ≡ first_of k rs
        → with star_of (entry_at (r ∷ rs) (suc (index_of k rs))) ≡ first_of k rs
    later true e ih =
        let l = ltb-true (index_of k rs) (length rs) e in
        rw (lt-ltb (suc (index_of k rs)) (suc (length rs)) (omega arith))
        (index_apart (suc (index_of k rs)) (get_or rs (index_of k rs) nought)
        ∙ sym (index_apart (index_of k rs) (get_or rs (index_of k rs) nought))
        ∙ ih)
    later false e ih =
        let l = ltb-false (index_of k rs) (length rs) e in
        rw (le-ltb (suc (index_of k rs)) (suc (length rs)) (omega arith)) ih

    go : (t : Bool) → with star_of (entry_at rs (index_of k rs)) ≡ first_of k rs
        → with star_of (entry_at (r ∷ rs) (cond t 0 (suc (index_of k rs)))) ≡ cond t (with star_of (entry 0 r)) (first_of k rs)
    go true ih = rw (lt-ltb 0 (suc (length rs)) (omega arith))
    go false ih = later (ltb (index_of k rs) (length rs)) refl ih

module _ (k : ℕ) (above : 0 < k) where
  first_empties : (m : ℕ) → first_of k (replicate m nought) ≡ refused 10
  first_empties zero = refl
  first_empties (suc m) = rw (ne_eqb 0 k (λ z. omega arith)) (first_empties m)

  first_kept : (rs : List Star) (m : ℕ) → first_of k (kept rs ++ replicate m nought) ≡ first_of k rs
  first_kept [] m = first_empties m
  first_kept (r ∷ rs) m = go (eqb r.number 0) refl (first_kept rs m)
    where
      go : (t : Bool) → eqb r.number 0 ≡ t → first_of k (kept rs ++ replicate m nought) ≡ first_of k rs
          → first_of k (cond (not t) (r ∷ kept rs) (kept rs) ++ replicate m nought)
          ≡ cond (eqb r.number k) (with star_of (entry 0 r)) (first_of k rs)
      go true e ih = let z = eqb-true r.number 0 e in rw (ne_eqb r.number k (λ q. omega (arith, z, q))) ih
      go false e ih = ap (λ (a : Answer Star). cond (eqb r.number k) (with star_of (entry 0 r)) a) ih

  found_gathered : (rs : List Star)
      → with star_of (entry_at (gathered rs) (index_of k (gathered rs))) ≡ with star_of (entry_at rs (index_of k rs))
  unfolding gathered
  found_gathered rs = first_found k (gathered rs) ∙ first_kept rs (length rs - length (kept rs)) ∙ sym (first_found k rs)

module _ (k : ℕ) where
  above : (k ≡ 0 → ⊥) → 0 < k
  above h = go (ltb 0 k) refl
    where
      go : (t : Bool) → ltb 0 k ≡ t → 0 < k
      go true e = ltb-true 0 k e
      go false e = let low = ltb-false 0 k e in absurd (h (omega arith))

  found_or_ten : (rs : List Star) → with star_of (find_in (gathered rs) k) ≡ with star_of (find_in rs k)
  found_or_ten rs = go (eqb k 0) refl
    where
      go : (z : Bool) → eqb k 0 ≡ z
          → with star_of (cond z (refused 10) (entry_at (gathered rs) (index_of k (gathered rs))))
          ≡ with star_of (cond z (refused 10) (entry_at rs (index_of k rs)))
      go true e = refl
      go false e = found_gathered k (above (eqb-false k 0 e)) rs

  pub find_after_gather : (s : List ℕ) → Bytes s → (new : List ℕ) → Edit (gather_rule s) s new (Ok tt)
      → with star_of (find_rule new k) ≡ with star_of (find_rule s k)
  find_after_gather s y new p =
      (λ i. with star_of (cond (list_by_length new s (gather_as_long s y new p) i) (find_in (stars_gathered s y new p i) k) (refused 8)))
      ∙ go (is_list s)
    where
      go : (t : Bool) → with star_of (cond t (find_in (gathered (stars s)) k) (refused 8)) ≡ with star_of (cond t (find_in (stars s) k) (refused 8))
      go true = found_or_ten (stars s)
      go false = refl
