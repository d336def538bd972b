-- What a call that is done makes of lent bytes, and when there is 19.
use Rattle.std.specs.Prelude.{◌≡◌, refl, Bool, true, false, List, ◌++◌, ℕ, ◌+◌, ◌*◌, ◌-◌, ◌≤◌, ◌<◌, ltb, length, take, drop, set, get_or, replicate, Ok}
use Rattle.std.proofs.Common.{sym, ap, ◌∙◌, subst, arith, length-set, get_or-set_same, eq-eqb, ne_eqb, ltb-true, ltb-false}
use Rattle.quantity.specs.rules.Answer.{answered, refused, with}
use Rattle.quantity.specs.notions.Varies.{is_answered}
use Rattle.quantity.specs.laws.Steps.{same_value}
use Rattle.lent.specs.rules.Writing.{written}
use Rattle.lent.specs.laws.Writing as writing
use Rattle.list.specs.rules.Record.{width, in_range, star_bytes}
use Rattle.list.specs.rules.Stars.{is_list, count_of, stars, kept, nought, nth, list_bytes, Bytes}
use Rattle.list.specs.rules.Find.{index_of}
use Rattle.list.specs.laws.Record.{length_star}
use Rattle.list.specs.laws.Stars.{length_stars, inside, whole}
use Rattle.list.specs.laws.RoundTrips.{length_list, stars_back, bytes_back}
use Rattle.list.specs.declared.Star.{Star}
use Rattle.list_edit.specs.rules.Edit.{strike_in, add_in, gather_in, gathered, strike_rule, add_rule, gather_rule, Edit}
use Rattle.list_edit.specs.notions.Edit.{Absent, Worked, Struck, FirstBecame}
use Rattle.list_edit.specs.notions.Ledger.{one, how_many, has_number}
use Rattle.list_edit.specs.laws.Bytes.{bytes_set, nought_bytes}
use Rattle.list_edit.specs.laws.First.{found, none_before, past_absent, absent_past}
use Rattle.list_edit.specs.laws.Edit.{on_list_lem, worked, own_refusal, struck, placed, full, add_full, add_placed, done_answered}
use Rattle.list_edit.specs.laws.Gather.{gathered_keeps, gathered_length, gathered_bytes, gathered_twice}
use Rattle.list_edit.specs.laws.Fitting.{list_fits, nought_fits, set_fits, gathered_fits, list_by_length}
use Rattle.list_edit.specs.laws.HowMany.{how_many_set, none_past}

-- ---- the first record with a number, and every other byte

module _ (s : List ℕ) (y : Bytes s) where
  became : is_list s ≡ true → (k : ℕ) (r : Star) → index_of k (stars s) < length (stars s)
      → FirstBecame k (star_bytes r) s (list_bytes (set (stars s) (index_of k (stars s)) r))
  became t k r there =
      let i = index_of k (stars s) in
      let h : i < count_of s = omega (arith, length_stars s) in
      record {
        index = i;
        inside = h;
        numbered = found k (stars s) there;
        first = none_before k (stars s);
        bytes =
            bytes_set (stars s) i r there
            ∙ ap (λ (l : List ℕ). written l (i * width) (star_bytes r)) (bytes_back s (whole s t).1 y).bytes
            ∙ writing.whole s (i * width) (star_bytes r) (omega (arith, length_star r, inside s i h))
            ∙ ap (λ (n : ℕ). take (i * width) s ++ star_bytes r ++ drop (i * width + n) s) (length_star r);
      }

  -- strike zeroes the first record with the number, all of it
  pub strike_zeroes_the_first : (k : ℕ) (new : List ℕ) → Edit (strike_rule s k) s new (Ok tt) → FirstBecame k (replicate width 0) s new
  strike_zeroes_the_first k new p =
      let w = worked (strike_in k) s new (done_answered (strike_rule s k) p) in
      let u = struck (stars s) k w.rs w.work in
      subst (λ (t : List ℕ). FirstBecame k t s new) nought_bytes
      (subst (λ (l : List ℕ). FirstBecame k (star_bytes nought) s l) (sym (w.bytes ∙ ap list_bytes u.is)) (became w.list k nought u.there))

  -- add writes the first empty place, all of it
  pub add_fills_the_first : (r : Star) (new : List ℕ) → Edit (add_rule s r) s new (Ok tt) → FirstBecame 0 (star_bytes r) s new
  add_fills_the_first r new p =
      let w = worked (add_in r) s new (done_answered (add_rule s r) p) in
      let u = placed (stars s) r w.rs w.work in
      subst (λ (l : List ℕ). FirstBecame 0 (star_bytes r) s l) (sym (w.bytes ∙ ap list_bytes u.is)) (became w.list 0 r u.there)

-- ---- 19 exactly when no place is empty

module _ (s : List ℕ) (r : Star) where
  pub nineteen_is_full : add_rule s r ≡ refused 19 → Absent 0 (stars s)
  nineteen_is_full h = past_absent 0 (stars s) (full (stars s) r (own_refusal (add_in r) s 19 (λ e. omega arith) h))

  module _ (t : is_list s ≡ true) (z : r.number ≡ 0 → ⊥) (range : in_range r ≡ true) (absent : Absent r.number (stars s)) where
    past : length (stars s) ≤ index_of r.number (stars s)
    past = absent_past r.number (stars s) absent

    pub full_is_nineteen : Absent 0 (stars s) → add_rule s r ≡ refused 19
    full_is_nineteen h =
        on_list_lem (add_in r) s t ∙ ap (with list_bytes) (add_full (stars s) r z range past (absent_past 0 (stars s) h))

    pub empty_is_taken : (i : ℕ) → i < length (stars s) → (nth s i).number ≡ 0 → is_answered (add_rule s r) ≡ true
    empty_is_taken i h e = go (ltb (index_of 0 (stars s)) (length (stars s))) refl
      where
        go : (b : Bool) → ltb (index_of 0 (stars s)) (length (stars s)) ≡ b → is_answered (add_rule s r) ≡ true
        go true b =
            let there = ltb-true (index_of 0 (stars s)) (length (stars s)) b in
            ap is_answered
            (on_list_lem (add_in r) s t ∙ ap (with list_bytes) (add_placed (stars s) r z range past (index_of 0 (stars s)) refl there))
        go false b = absurd (past_absent 0 (stars s) (ltb-false (index_of 0 (stars s)) (length (stars s)) b) i h e)

-- ---- a star that was struck can be added again, where its number stood once

module _ (s : List ℕ) (y : Bytes s) (k : ℕ) (new : List ℕ) (p : Edit (strike_rule s k) s new (Ok tt)) where
  abbrev w : Worked (strike_in k) s new
  w = worked (strike_in k) s new (done_answered (strike_rule s k) p)

  abbrev u : Struck k (stars s) w.rs
  u = struck (stars s) k w.rs w.work

  abbrev i : ℕ
  i = index_of k (stars s)

  is : new ≡ list_bytes (set (stars s) i nought)
  is = w.bytes ∙ ap list_bytes u.is

  stars_struck : stars new ≡ set (stars s) i nought
  stars_struck = ap stars is ∙ stars_back (set (stars s) i nought) (set_fits (stars s) i nought (list_fits s y w.list) nought_fits)

  long : length new ≡ length s
  long =
      ap length is
      ∙ length_list (set (stars s) i nought)
      ∙ ap (λ (n : ℕ). width * n) (length-set (stars s) i nought)
      ∙ sym (length_list (stars s))
      ∙ ap length (bytes_back s (whole s w.list).1 y).bytes

  -- none has the number any more, and a place is empty
  gone : how_many (has_number k) (stars s) ≤ 1 → how_many (has_number k) (set (stars s) i nought) ≡ 0
  gone l =
      let was = ap one (eq-eqb (nth s i).number k (found k (stars s) u.there)) in
      let not = ap one (ne_eqb 0 k (λ q. omega (arith, u.above, q))) in
      omega (arith, how_many_set (has_number k) (stars s) i nought u.there, was, not)

  pub added_again : (r : Star) → how_many (has_number k) (stars s) ≤ 1 → r.number ≡ k → in_range r ≡ true
      → is_answered (add_rule new r) ≡ true
  added_again r l n range =
      let many = length-set (stars s) i nought in
      empty_is_taken new r (list_by_length new s long ∙ w.list) (λ q. omega (arith, u.above, n, q)) range
      (subst (λ (rs : List Star). Absent r.number rs) (sym stars_struck)
      (past_absent r.number (set (stars s) i nought)
      (none_past r.number (set (stars s) i nought)
      (subst (λ (m : ℕ). how_many (has_number m) (set (stars s) i nought) ≡ 0) (sym n) (gone l)))))
      i
      (omega (arith, u.there, many, ap length stars_struck))
      (ap (λ (rs : List Star). (get_or rs i nought).number) stars_struck ∙ ap (λ (q : Star). q.number) (get_or-set_same (stars s) i nought nought u.there))

-- ---- a list gathered

module _ (s : List ℕ) (y : Bytes s) (new : List ℕ) (p : Edit (gather_rule s) s new (Ok tt)) where
  abbrev v : Worked gather_in s new
  v = worked gather_in s new (done_answered (gather_rule s) p)

  gathered_is : new ≡ list_bytes (gathered (stars s))
  gathered_is = v.bytes ∙ ap list_bytes (sym (same_value v.work))

  pub stars_gathered : stars new ≡ gathered (stars s)
  stars_gathered = ap stars gathered_is ∙ stars_back (gathered (stars s)) (gathered_fits (stars s) (list_fits s y v.list))

  -- the kept before are the kept after, in their order
  pub gather_keeps : kept (stars new) ≡ kept (stars s)
  gather_keeps = ap kept stars_gathered ∙ gathered_keeps (stars s)

  -- all bytes after them are zero
  pub gather_leaves_zeros : new ≡ list_bytes (kept (stars s)) ++ replicate (width * (length (stars s) - length (kept (stars s)))) 0
  gather_leaves_zeros = gathered_is ∙ gathered_bytes (stars s)

  -- no byte more, none less
  pub gather_as_long : length new ≡ length s
  gather_as_long =
      ap length gathered_is
      ∙ length_list (gathered (stars s))
      ∙ ap (λ (n : ℕ). width * n) (gathered_length (stars s))
      ∙ sym (length_list (stars s))
      ∙ ap length (bytes_back s (whole s v.list).1 y).bytes

  pub gather_twice_is_once : gather_rule new ≡ answered new
  gather_twice_is_once =
      on_list_lem gather_in new (list_by_length new s gather_as_long ∙ v.list)
      ∙ ap (λ (rs : List Star). answered (list_bytes rs)) (ap gathered stars_gathered ∙ gathered_twice (stars s))
      ∙ ap answered (sym gathered_is)
