-- The passes of the moves, star by star.
use Rattle.std.specs.Prelude.{◌≡◌, Bool, ◌&&◌, take, drop}
use Rattle.std.proofs.Math.Path.{refl, sym, ap}
use Rattle.std.proofs.Common.{◌∙◌}
use Rattle.std.proofs.Math.Bool.{true, false, cond}
use mathlib.Core.List.{List, [], ◌∷◌, ◌++◌, append-nil}
use Prim.Native.Nat.{ℕ, zero, suc, ◌+◌, ◌*◌, ◌-◌, ◌<◌}
use native.Mathlib.Omega.{arith}
use Rattle.std.proofs.Math.ListN.{length, length-append}
use Rattle.quantity.specs.rules.Answer.{answered, refused, with}
use Rattle.list.specs.declared.Star.{Star}
use Rattle.list.specs.rules.Record.{width, in_range}
use Rattle.list.specs.rules.Stars.{is_list, count_of, stars, nth, list_bytes, all_in_range}
use Rattle.list.specs.laws.Stars.{length_stars, one_more, from}
use Rattle.list.specs.laws.RoundTrips.{length_list}
use Rattle.list_groups.specs.rules.Groups.{groups}
use Rattle.list_groups.specs.rules.Reading.{Got}
use Rattle.list_groups.specs.rules.Several.{spell_all, before, read_all}
use Rattle.quantity.specs.laws.Steps.{refused_not_answered, stepped, changed, with_refused}
use Rattle.list_groups.specs.laws.Several.{spell_append}
use Rattle.list_radio.specs.rules.Star.{star_groups, read_star}
use Rattle.list_radio.specs.rules.Radio.{head_bytes, radio_bytes, is_moving, nothing_over, stars_of, radio_stars}
use Rattle.list_radio.specs.rules.Reader.{open_rule}
use Rattle.list_moves.specs.rules.Moves.{to_list, to_radio, stars_upto, size_of}
use Rattle.list_radio.specs.laws.Radio.{over_back}
use Rattle.list_radio.specs.laws.Put.{length_head}
use Rattle.list_radio.specs.laws.Reader.{head_refused, head_answered}

-- ---- the stars up to the first that is refused

module _ (moving : Bool) where
  pub upto_none : (m : ℕ) (bs : List ℕ) → m ≡ 0 → stars_upto moving m bs ≡ []
  unfolding stars_upto
  upto_none zero bs h = refl
  upto_none (suc m) bs h = absurd (omega arith)

  pub upto_refused : (m : ℕ) (bs : List ℕ) (k : ℕ) → read_star moving bs ≡ refused k → stars_upto moving m bs ≡ []
  unfolding stars_upto
  upto_refused zero bs k e = refl
  upto_refused (suc m) bs k e = rw e

  pub upto_more : (m : ℕ) (bs : List ℕ) (g : Got Star) → 0 < m → read_star moving bs ≡ answered g
      → stars_upto moving m bs ≡ g.value ∷ stars_upto moving (m - 1) g.rest
  unfolding stars_upto
  upto_more zero bs g h e = absurd (omega arith)
  upto_more (suc m) bs g h e =
      rw e (ap (λ (k : ℕ). g.value ∷ stars_upto moving k g.rest) (let q : m ≡ suc m - 1 = omega arith in q))

  -- where all are answered they are all of them
  upto_all : (n : ℕ) (bs : List ℕ) (g : Got (List Star)) → read_all (read_star moving) n bs ≡ answered g → stars_upto moving n bs ≡ g.value
  unfolding read_all
  upto_all zero bs g h =
      upto_none 0 bs refl ∙ ap (λ (x : Got (List Star)). x.value) (let q : record { value = []; rest = bs } ≡ g = cc in q)
  upto_all (suc n) bs g h =
      let s = stepped (read_star moving bs) (λ (f : Got Star). with (before f.value) (read_all (read_star moving) n f.rest)) g h in
      let f = s.value in
      let c = changed (read_all (read_star moving) n f.rest) (before f.value) g s.next in
      upto_more (suc n) bs f (omega arith) s.first
      ∙ ap (λ (k : ℕ). f.value ∷ stars_upto moving k f.rest) (let q : suc n - 1 ≡ n = omega arith in q)
      ∙ ap (λ (rs : List Star). f.value ∷ rs) (upto_all n f.rest c.value c.first)
      ∙ ap (λ (x : Got (List Star)). x.value) (sym c.is)

  pub upto_is : (n : ℕ) (bs : List ℕ) (rs : List Star) → stars_of moving n bs ≡ answered rs → stars_upto moving n bs ≡ rs
  unfolding stars_of
  upto_is n bs rs h =
      let s = stepped (read_all (read_star moving) n bs) nothing_over rs h in
      upto_all n bs s.value s.first ∙ sym (over_back s.value rs s.next).1

-- ---- a radio list to the stored list

module _ (s : List ℕ) where
  pub no_head : (k : ℕ) → refused k ≡ open_rule s → to_list s ≡ refused k
  unfolding to_list
  no_head k e = rw (head_refused s k e)

  -- the head and all m stars are answered
  pub record AllRead (moving : Bool) (n first m : ℕ) : Type 0 where
    pub moved : to_list s ≡ answered (list_bytes (stars_upto moving n (drop first s)))
    pub long : length (list_bytes (stars_upto moving n (drop first s))) ≡ width * m

  module _ (n first : ℕ) (head : answered (record { value = n; offset = first }) ≡ open_rule s) (moving : Bool) (by : moving ≡ is_moving s) where
    after_head : radio_stars s ≡ stars_of moving n (drop first s)
    after_head = head_answered s n first head ∙ ap (λ (t : Bool). stars_of t n (drop first s)) (sym by)

    pub no_stars : (k : ℕ) → refused k ≡ with length (stars_of moving n (drop first s)) → to_list s ≡ refused k
    unfolding to_list
    no_stars k e = rw (after_head, with_refused (stars_of moving n (drop first s)) length k (sym e))

    pub all_stars : (m : ℕ) → answered m ≡ with length (stars_of moving n (drop first s)) → AllRead moving n first m
    unfolding to_list
    all_stars m e =
        let c = changed (stars_of moving n (drop first s)) length m (sym e) in
        let rs = c.value in
        let u = upto_is moving n (drop first s) rs c.first in
        record {
          moved = rw (after_head, c.first) (ap (λ (l : List Star). answered (list_bytes l)) (sym u));
          long = ap (λ (l : List Star). length (list_bytes l)) u ∙ length_list rs ∙ ap (λ (k : ℕ). width * k) (sym c.is);
        }

-- ---- a stored list to the radio list

module _ (s : List ℕ) (i : ℕ) (h : i < count_of s) where
  pub groups_more : spell_all star_groups (take i (stars s)) ++ star_groups (nth s i) ≡ spell_all star_groups (take (i + 1) (stars s))
  groups_more =
      sym
      (ap (spell_all star_groups) (one_more s i h)
      ∙ spell_append star_groups (take i (stars s)) (nth s i ∷ [])
      ∙ ap (λ (l : List ℕ). spell_all star_groups (take i (stars s)) ++ l) (append-nil (star_groups (nth s i))))

  pub ranges_more : all_in_range (drop i (stars s)) ≡ (in_range (nth s i) && all_in_range (drop (i + 1) (stars s)))
  ranges_more = ap all_in_range (from s i h)

pub no_list : (s : List ℕ) → is_list s ≡ false → to_radio s ≡ refused 8
unfolding to_radio
no_list s e = rw e

module _ (s : List ℕ) (list : is_list s ≡ true) where
  pub no_size : (k : ℕ) → refused k ≡ size_of (stars s) → to_radio s ≡ refused k
  unfolding to_radio size_of
  no_size k e = rw list (go (all_in_range (stars s)) e)
    where
      go : (t : Bool) → refused k ≡ cond t (answered (length (spell_all star_groups (stars s)))) (refused 9)
          → cond t (answered (radio_bytes (stars s))) (refused 9) ≡ refused k
      go true e = absurd (refused_not_answered e)
      go false e = cc

  pub record Sized (size : ℕ) : Type 0 where
    pub moved : to_radio s ≡ answered (radio_bytes (stars s))
    pub is : size ≡ length (spell_all star_groups (stars s))

  pub sized : (size : ℕ) → answered size ≡ size_of (stars s) → Sized size
  unfolding to_radio size_of
  sized size e = let f = go (all_in_range (stars s)) e in record { moved = rw (list, f.0); is = f.1 }
    where
      go : (t : Bool) → answered size ≡ cond t (answered (length (spell_all star_groups (stars s)))) (refused 9)
          → (t ≡ true) × (size ≡ length (spell_all star_groups (stars s)))
      go true e = (refl, cc)
      go false e = absurd (refused_not_answered (sym e))

  pub length_radio : length (radio_bytes (stars s)) ≡ 1 + length (groups (count_of s)) + length (spell_all star_groups (stars s))
  unfolding radio_bytes
  length_radio =
      length-append (head_bytes (length (stars s))) (spell_all star_groups (stars s))
      ∙ ap (λ (n : ℕ). length (head_bytes n) + length (spell_all star_groups (stars s))) (length_stars s)
      ∙ ap (λ (n : ℕ). n + length (spell_all star_groups (stars s))) (length_head (count_of s))
