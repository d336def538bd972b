-- The ledger: from a list on that is all zero, whatever the calls, answered and refused, the kept stars are the answered adds less the
-- answered strikes, and no number stands twice; and a list of n places takes n adds.
use Rattle.std.specs.Prelude.{◌≡◌, refl, Bool, true, List, [], ◌∷◌, ◌++◌, ℕ, ◌+◌, ◌*◌, ◌≤◌, ◌<◌, length, replicate}
use Rattle.std.proofs.Common.{sym, ap, ◌∙◌, subst, arith, length-set}
use Rattle.std.proofs.lemmas.List.{length-replicate}
use Rattle.quantity.specs.rules.Answer.{Answer, answered, refused, with}
use Rattle.quantity.specs.laws.Steps.{same_value}
use Rattle.list.specs.rules.Record.{width}
use Rattle.list.specs.rules.Stars.{most_stars, is_list, stars, kept, nought, list_bytes, AllFitting}
use Rattle.list.specs.rules.Find.{index_of}
use Rattle.list.specs.laws.RoundTrips.{length_list, is_list_lem, stars_back}
use Rattle.list.specs.declared.Star.{Star}
use Rattle.list_edit.specs.rules.Edit.{on_list}
use Rattle.list_edit.specs.notions.Ledger.{Call, adds, strikes, gathers, on_bytes, on_stars, booked, Ledger, entered, after_calls}
use Rattle.list_edit.specs.notions.Ledger.{ledger_of, star_ledger_of, FittingCall, AllFittingCalls, how_many, has_number, Follows, Addable, adds_of}
use Rattle.list_edit.specs.laws.Bytes.{empty_bytes}
use Rattle.list_edit.specs.laws.Edit.{on_list_lem, struck, placed}
use Rattle.list_edit.specs.laws.Gather.{gathered_length}
use Rattle.list_edit.specs.laws.Fitting.{nought_fits, set_fits, empty_fits, gathered_fits, list_by_length}
use Rattle.list_edit.specs.laws.Balance.{kept_is_book, numbers_once}
use Rattle.list_edit.specs.laws.Fill.{adds_fill}

-- ---- an answered call leaves as many places, and fields that have words

abbrev Made : List Star → List Star → Type 0
Made rs ts = AllFitting ts × (length ts ≡ length rs)

module _ (rs : List Star) (f : AllFitting rs) where
  made : (c : Call) → FittingCall c → (ts : List Star) → on_stars c rs ≡ answered ts → Made rs ts
  made (adds r) g ts e =
      subst (Made rs) (sym (placed rs r ts e).is) (set_fits rs (index_of 0 rs) r f g, length-set rs (index_of 0 rs) r)
  made (strikes k) g ts e =
      subst (Made rs) (sym (struck rs k ts e).is) (set_fits rs (index_of k rs) nought f nought_fits, length-set rs (index_of k rs) nought)
  made gathers g ts e = subst (Made rs) (same_value e) (gathered_fits rs f, gathered_length rs)

-- ---- the bytes follow the stars

on_stars_lem : (c : Call) (s : List ℕ) → on_bytes c s ≡ on_list (on_stars c) s
on_stars_lem (adds r) s = refl
on_stars_lem (strikes k) s = refl
on_stars_lem gathers s = refl

call_follows : (g : Ledger (List ℕ)) (h : Ledger (List Star)) (c : Call) → FittingCall c → Follows g h
    → Follows (entered (on_bytes c g.list) c g) (entered (on_stars c h.list) c h)
call_follows g h c fc w =
    subst (λ (a : Answer (List ℕ)). Follows (entered a c g) (entered (on_stars c h.list) c h)) (sym here)
    (go (on_stars c h.list) refl)
  where
    here : on_bytes c g.list ≡ with list_bytes (on_stars c h.list)
    here =
        on_stars_lem c g.list
        ∙ on_list_lem (on_stars c) g.list w.is
        ∙ ap (λ (rs : List Star). with list_bytes (on_stars c rs)) (ap stars w.bytes ∙ stars_back h.list w.fits)

    go : (a : Answer (List Star)) → on_stars c h.list ≡ a → Follows (entered (with list_bytes a) c g) (entered a c h)
    go (answered ts) e =
        let m = made h.list w.fits c fc ts e in
        record {
          bytes = refl;
          book = ap (booked c) w.book;
          fits = m.0;
          is =
              list_by_length (list_bytes ts) g.list
              (length_list ts ∙ ap (λ (n : ℕ). width * n) m.1 ∙ sym (length_list h.list) ∙ ap length (sym w.bytes))
              ∙ w.is;
        }
    go (refused n) e = w

follows : (cs : List Call) (g : Ledger (List ℕ)) (h : Ledger (List Star)) → AllFittingCalls cs → Follows g h
    → Follows (after_calls on_bytes cs g) (after_calls on_stars cs h)
follows [] g h f w = w
follows (c ∷ cs) g h f w = follows cs _ _ f.1 (call_follows g h c f.0 w)

-- ---- from n places on that are all zero

module _ (n : ℕ) (few : n ≤ most_stars) (cs : List Call) (f : AllFittingCalls cs) where
  at_end_lem : Follows (ledger_of n cs) (star_ledger_of n cs)
  at_end_lem =
      follows cs _ _ f
      (record {
        bytes = sym (empty_bytes n);
        book = refl;
        fits = empty_fits n;
        is =
            ap is_list (sym (empty_bytes n))
            ∙ is_list_lem (replicate n nought) (omega (arith, length-replicate n nought));
      })

  stars_at_end : stars (ledger_of n cs).list ≡ (star_ledger_of n cs).list
  stars_at_end = ap stars at_end_lem.bytes ∙ stars_back (star_ledger_of n cs).list at_end_lem.fits

  -- the kept stars are the answered adds less the answered strikes: as many pass any test
  pub ledger : (p : Star → Bool) → how_many p (kept (stars (ledger_of n cs).list)) ≡ how_many p (ledger_of n cs).book
  ledger p = ap (λ (rs : List Star). how_many p (kept rs)) stars_at_end ∙ kept_is_book n cs p ∙ ap (how_many p) (sym at_end_lem.book)

  pub no_number_twice : (k : ℕ) → 0 < k → how_many (has_number k) (stars (ledger_of n cs).list) ≤ 1
  no_number_twice k h = subst (λ (rs : List Star). how_many (has_number k) rs ≤ 1) (sym stars_at_end) (numbers_once n cs k h)

  pub still_a_list : is_list (ledger_of n cs).list ≡ true
  still_a_list = at_end_lem.is

-- stars that can be added one after the other fill as many places, in their order, and leave the others empty
pub places_take_adds : (rs : List Star) (m : ℕ) → length rs + m ≤ most_stars → AllFittingCalls (adds_of rs) → Addable [] rs
    → stars (ledger_of (length rs + m) (adds_of rs)).list ≡ rs ++ replicate m nought
places_take_adds rs m few f a = stars_at_end (length rs + m) few (adds_of rs) f ∙ adds_fill rs m a
