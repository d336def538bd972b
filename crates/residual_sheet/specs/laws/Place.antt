-- What largest and place say: no residual taken in is larger, one of that size is at the place, and none before it.
use Rattle.std.specs.Prelude.{◌≡◌, refl, Bool, true, false, cond, List, [], ◌∷◌, ℕ, zero, suc, ◌≤◌, ◌<◌, get_or}
use Rattle.std.proofs.Common.{sym, ap, true≢false, le_of_suc-le-suc, arith}
use Rattle.residual_sheet.specs.declared.Residual.{Residual}
use Rattle.residual_sheet.specs.rules.Entry.{Entry, other, aside, taken}
use Rattle.residual_sheet.specs.rules.Sheet.{taken_in, largest_of, has_size, first_place, figures_of}
use Rattle.residual_sheet.specs.notions.Place.{is_there, IsFirst}
use Rattle.residual_sheet.specs.laws.Parts.{is_some, largest_there}

first_is : (n : ℕ) (es : List Entry) → is_there n es ≡ true → IsFirst n es (first_place n es)
first_is n [] h = absurd (true≢false (sym h))
first_is n (e ∷ es) h = by_flag (has_size n e) refl h (first_is n es)
  where
    by_flag : (b : Bool) → has_size n e ≡ b → cond b true (is_there n es) ≡ true → (is_there n es ≡ true → IsFirst n es (first_place n es))
        → IsFirst n (e ∷ es) (cond b 0 (suc (first_place n es)))
    by_flag true q h later = record { there = q; before = λ j k. absurd (omega arith) }
    by_flag false q h later = record { there = (later h).there; before = first-fails }
      where
        first-fails : (j : ℕ) → j < suc (first_place n es) → has_size n (get_or (e ∷ es) j other) ≡ false
        first-fails zero k = q
        first-fails (suc j) k = (later h).before j (le_of_suc-le-suc k)

pub place_is_first : (es : List Entry) → 0 < (figures_of es).count → IsFirst (figures_of es).largest es (figures_of es).place
unfolding figures_of
place_is_first es h = rw (is_some h) (first_is (largest_of (taken_in es)) es (largest_there es h))

-- an entry as one number: one more than the size of what is taken in
abbrev above : Entry → ℕ
above other = 0
above aside = 0
above (taken x) = suc x.size

pub none_is_larger : (es : List Entry) (i : ℕ) (x : Residual) → get_or es i other ≡ taken x → x.size ≤ (figures_of es).largest
unfolding figures_of
none_is_larger [] i x e = absurd (omega (arith, ap above e))
none_is_larger (other ∷ es) zero x e = absurd (omega (arith, ap above e))
none_is_larger (other ∷ es) (suc i) x e = none_is_larger es i x e
none_is_larger (aside ∷ es) zero x e = absurd (omega (arith, ap above e))
none_is_larger (aside ∷ es) (suc i) x e = none_is_larger es i x e
none_is_larger (taken y ∷ es) zero x e = omega (arith, ap above e)
none_is_larger (taken y ∷ es) (suc i) x e = omega (arith, none_is_larger es i x e)
