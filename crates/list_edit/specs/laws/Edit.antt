-- What each edit answers, case by case, and what an answer or a refusal tells; a promise fixes the answer and every byte.
use Rattle.std.specs.Prelude.{◌≡◌, Bool, not, ◌&&◌, List, ℕ, zero, suc, ◌*◌, ◌≤◌, ◌<◌, eqb, set, ⊤, Result, Ok, Err}
use Rattle.std.proofs.Math.Path.{refl, sym}
use Rattle.std.proofs.Common.{ap, ◌∙◌, arith}
use Rattle.std.proofs.Math.Bool.{true, false, cond}
use Rattle.std.proofs.Math.ListN.{length}
use borrow.Author.Tests.{eq-eqb, ne_eqb, lt-ltb, le-ltb, ltb-true, ltb-false}
use Rattle.quantity.specs.declared.Refusal.{Refusal}
use Rattle.quantity.specs.declared.Refusal.TheVariants as refusal
use Rattle.quantity.specs.rules.Answer.{Answer, answered, refused, number, shown, with}
use Rattle.quantity.specs.laws.Answer.{unique, shown_loses_nothing}
use Rattle.quantity.specs.laws.Steps.{refused_not_answered, same_value, same_number, changed, with_refused}
use Rattle.lent.specs.rules.Writing.{written, Wrote}
use Rattle.lent.specs.laws.Flags.{both_hold}
use Rattle.list.specs.rules.Record.{width, in_range, star_bytes}
use Rattle.list.specs.rules.Stars.{is_list, count_of, stars, is_kept, nought, list_bytes, Bytes}
use Rattle.list.specs.rules.Find.{index_of}
use Rattle.list.specs.laws.Stars.{length_stars, whole}
use Rattle.list.specs.laws.RoundTrips.{bytes_back}
use Rattle.list.specs.declared.Star.{Star}
use Rattle.list_edit.specs.rules.Edit.{is_present, strike_in, add_in, on_list, Edit}
use Rattle.list_edit.specs.notions.Edit.{Worked, Struck, Placed}
use Rattle.list_edit.specs.laws.Bytes.{bytes_set}

-- ---- an edit of the stars as one of the bytes

module _ (edit : List Star → Answer (List Star)) (s : List ℕ) where
  pub no_list : is_list s ≡ false → Edit (on_list edit s) s s (Err refusal.List)
  unfolding on_list
  no_list a = record { answer = rw a; bytes = rw a }

  pub refuses : (k : Refusal) → is_list s ≡ true → edit (stars s) ≡ refused (number k) → Edit (on_list edit s) s s (Err k)
  unfolding on_list
  refuses k a e = record { answer = rw (a, e); bytes = rw (a, e) }

  pub edits : (rs : List Star) (new : List ℕ) → is_list s ≡ true → edit (stars s) ≡ answered rs → new ≡ list_bytes rs
      → Edit (on_list edit s) s new (Ok tt)
  unfolding on_list
  edits rs new a e n = record { answer = rw (a, e); bytes = rw (a, e) n }

  -- one record changed
  pub changes : (i : ℕ) (r : Star) (new : List ℕ) (v : ℕ) → Bytes s → is_list s ≡ true → i < count_of s
      → edit (stars s) ≡ answered (set (stars s) i r) → Wrote s (i * width) (star_bytes r) new v → Edit (on_list edit s) s new (Ok tt)
  changes i r new v y a h e w =
      let b = bytes_back s (whole s a).1 y in
      edits (set (stars s) i r) new a e
      (w.text
      ∙ sym
      (bytes_set (stars s) i r (omega (arith, length_stars s)) ∙ ap (λ (l : List ℕ). written l (i * width) (star_bytes r)) b.bytes))

  pub on_list_lem : is_list s ≡ true → on_list edit s ≡ with list_bytes (edit (stars s))
  unfolding on_list
  on_list_lem a = rw a

  -- what is answered was a list, and so were its stars
  pub worked : (t : List ℕ) → on_list edit s ≡ answered t → Worked edit s t
  unfolding on_list
  worked t h = go (is_list s) refl h
    where
      go : (a : Bool) → is_list s ≡ a → cond a (with list_bytes (edit (stars s))) (refused 8) ≡ answered t → Worked edit s t
      go true a h =
          let c = changed (edit (stars s)) list_bytes t h in
          record { list = a; rs = c.value; work = c.first; bytes = c.is }
      go false a h = absurd (refused_not_answered h)

  -- any refusal but 8 is the stars' own
  pub own_refusal : (k : ℕ) → (8 ≡ k → ⊥) → on_list edit s ≡ refused k → edit (stars s) ≡ refused k
  unfolding on_list
  own_refusal k other h = go (is_list s) h
    where
      go : (a : Bool) → cond a (with list_bytes (edit (stars s))) (refused 8) ≡ refused k → edit (stars s) ≡ refused k
      go true h = with_refused (edit (stars s)) list_bytes k h
      go false h = absurd (other (same_number h))

-- ---- strike and add, case by case

module _ (rs : List Star) where
  pub strike_zero : (k : ℕ) → k ≡ 0 → strike_in k rs ≡ refused 10
  unfolding strike_in
  strike_zero k h = rw (eq-eqb k 0 h)

  pub strike_absent : (k : ℕ) → length rs ≤ index_of k rs → strike_in k rs ≡ refused 10
  unfolding strike_in
  strike_absent k h = go (not (eqb k 0))
    where
      go : (t : Bool) → cond (t && is_present k rs) (answered (set rs (index_of k rs) nought)) (refused 10) ≡ refused 10
      go true = rw (le-ltb (index_of k rs) (length rs) h)
      go false = refl

  pub strike_present : (k i : ℕ) → (k ≡ 0 → ⊥) → i ≡ index_of k rs → i < length rs → strike_in k rs ≡ answered (set rs i nought)
  unfolding strike_in
  strike_present k i z e h = rw (← e, ne_eqb k 0 z, lt-ltb i (length rs) h)

  module _ (r : Star) where
    pub add_zero : r.number ≡ 0 → add_in r rs ≡ refused 9
    unfolding add_in
    add_zero h = rw (eq-eqb r.number 0 h)

    pub add_out_of_range : in_range r ≡ false → add_in r rs ≡ refused 9
    unfolding add_in
    add_out_of_range h = rw h (go (is_kept r) _)
      where
        go : (t : Bool) (a : Answer (List Star)) → cond (t && false) a (refused 9) ≡ refused 9
        go true a = refl
        go false a = refl

    module _ (z : r.number ≡ 0 → ⊥) (range : in_range r ≡ true) where
      pub add_present : index_of r.number rs < length rs → add_in r rs ≡ refused 18
      unfolding add_in
      add_present h = rw (ne_eqb r.number 0 z, range, lt-ltb (index_of r.number rs) (length rs) h)

      module _ (absent : length rs ≤ index_of r.number rs) where
        pub add_full : length rs ≤ index_of 0 rs → add_in r rs ≡ refused 19
        unfolding add_in
        add_full h =
            rw (
              ne_eqb r.number 0 z,
              range,
              le-ltb (index_of r.number rs) (length rs) absent,
              le-ltb (index_of 0 rs) (length rs) h,
            )

        pub add_placed : (i : ℕ) → i ≡ index_of 0 rs → i < length rs → add_in r rs ≡ answered (set rs i r)
        unfolding add_in
        add_placed i e h =
            rw (ne_eqb r.number 0 z, range, le-ltb (index_of r.number rs) (length rs) absent, ← e, lt-ltb i (length rs) h)

-- ---- what an answer tells, and 19

pub not_zero : (k : ℕ) → not (eqb k 0) ≡ true → 0 < k
not_zero zero h = absurd (let z : ◌≡◌ {A = ℕ} 0 1 = cc in omega arith)
not_zero (suc k) h = omega arith

module _ (rs : List Star) where
  pub struck : (k : ℕ) (ts : List Star) → strike_in k rs ≡ answered ts → Struck k rs ts
  unfolding strike_in
  struck k ts h = go (not (eqb k 0) && is_present k rs) refl h
    where
      go : (t : Bool) → (not (eqb k 0) && is_present k rs) ≡ t → cond t (answered (set rs (index_of k rs) nought)) (refused 10) ≡ answered ts
          → Struck k rs ts
      go true e h =
          let p = both_hold (not (eqb k 0)) (is_present k rs) e in
          record { above = not_zero k p.0; there = ltb-true (index_of k rs) (length rs) p.1; is = sym (same_value h) }
      go false e h = absurd (refused_not_answered h)

  module _ (r : Star) where
    abbrev adding : Bool → Bool → Bool → Answer (List Star)
    adding good present empty =
        cond good (cond present (refused 18) (cond empty (answered (set rs (index_of 0 rs) r)) (refused 19))) (refused 9)

    pub placed : (ts : List Star) → add_in r rs ≡ answered ts → Placed r rs ts
    unfolding add_in
    placed ts h = go (is_kept r && in_range r) (is_present r.number rs) (is_present 0 rs) refl refl refl h
      where
        go : (t u v : Bool) → (is_kept r && in_range r) ≡ t → is_present r.number rs ≡ u → is_present 0 rs ≡ v
            → adding t u v ≡ answered ts → Placed r rs ts
        go true false true e f g h =
            let p = both_hold (is_kept r) (in_range r) e in
            record {
              kept = p.0;
              range = p.1;
              fresh = ltb-false (index_of r.number rs) (length rs) f;
              there = ltb-true (index_of 0 rs) (length rs) g;
              is = sym (same_value h);
            }
        go true true v e f g h = absurd (refused_not_answered h)
        go true false false e f g h = absurd (refused_not_answered h)
        go false u v e f g h = absurd (refused_not_answered h)

    pub full : add_in r rs ≡ refused 19 → length rs ≤ index_of 0 rs
    unfolding add_in
    full h = go (is_kept r && in_range r) (is_present r.number rs) (is_present 0 rs) refl h
      where
        go : (t u v : Bool) → is_present 0 rs ≡ v → adding t u v ≡ refused 19 → length rs ≤ index_of 0 rs
        go true true v e h = absurd (let n : 18 ≡ 19 = same_number h in omega arith)
        go true false true e h = absurd (refused_not_answered (sym h))
        go true false false e h = ltb-false (index_of 0 rs) (length rs) e
        go false u v e h = absurd (let n : 9 ≡ 19 = same_number h in omega arith)

-- ---- a promise fixes the answer and every byte

pub one_edit : {edit : Answer (List ℕ)} {old new new' : List ℕ} {r s : Result ⊤ Refusal} → Edit edit old new r → Edit edit old new' s
    → (new ≡ new') × (r ≡ s)
one_edit {r = r} {s = s} p q =
    (p.bytes ∙ sym q.bytes, unique shown shown_loses_nothing r s p.answer q.answer)

-- a call that is done left the bytes of its rule
pub done_answered : (edit : Answer (List ℕ)) {old new : List ℕ} → Edit edit old new (Ok tt) → edit ≡ answered new
done_answered (answered t) p = ap answered (sym p.bytes)
done_answered (refused n) p = absurd (refused_not_answered (sym p.answer))

-- a refused call leaves every byte
pub refused_leaves : (edit : Answer (List ℕ)) {old new : List ℕ} {n : Refusal} → Edit edit old new (Err n) → new ≡ old
refused_leaves (answered t) p = absurd (refused_not_answered p.answer)
refused_leaves (refused n) p = p.bytes
