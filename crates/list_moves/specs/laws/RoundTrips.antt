-- The two moves undo each other: stored lists and radio lists that begin with byte 3 say the same. A radio list that begins with byte 2 is
-- written again as the list with byte 3 of the same stars.
use Rattle.std.specs.Prelude.{◌≡◌, Bool, false, cond, List, [], ◌∷◌, ℕ, ◌+◌, ◌≤◌, length, take, drop, Ok}
use Rattle.std.proofs.Math.Path.{refl, ap}
use Rattle.std.proofs.Common.{sym, ◌∙◌, arith, take_at}
use Rattle.std.proofs.Math.Bool.{true}
use Rattle.quantity.specs.rules.Answer.{Answer, answered, refused, with}
use Rattle.lent.specs.rules.Put.{Put}
use Rattle.lent.specs.laws.Put.{put_stands}
use Rattle.lent.specs.laws.Flags.{both_hold}
use Rattle.list.specs.declared.Star.{Star}
use Rattle.list.specs.rules.Record.{in_range}
use Rattle.list.specs.rules.Stars.{most_stars, is_list, stars, list_bytes, AllFitting, Bytes, all_in_range}
use Rattle.list.specs.laws.Stars.{whole, length_stars, few}
use Rattle.list.specs.laws.RoundTrips.{is_list_lem, stars_back, bytes_back}
use Rattle.quantity.specs.laws.Steps.{same_value, refused_not_answered, changed}
use Rattle.list_groups.specs.notions.Spelt.{AllGood}
use Rattle.list_radio.specs.notions.Good.{Good, form_bytes}
use Rattle.list.specs.notions.Moves.{ThereAndBack}
use Rattle.list_moves.specs.notions.Moves.{WrittenAgain}
use Rattle.list_radio.specs.rules.Radio.{radio_bytes, is_moving, radio_stars}
use Rattle.list_radio.specs.rules.Reader.{accept_rule}
use Rattle.list_moves.specs.rules.Moves.{to_list, to_radio}
use Rattle.list_radio.specs.laws.Radio.{as_written, radio_spelt_is_read, written_is_read, radio_read_was_spelt}

-- ---- stars that either form can hold

pub all_good : (rs : List Star) → AllFitting rs → all_in_range rs ≡ true → AllGood (Good true) rs
all_good [] f h = tt
all_good (r ∷ rs) f h =
    let p = both_hold (in_range r) (all_in_range rs) h in
    (record { fitting = f.0; range = p.0; held = tt }, all_good rs f.1 p.1)

module _ (moving : Bool) where
  ranges : (rs : List Star) → AllGood (Good moving) rs → all_in_range rs ≡ true
  ranges [] g = refl
  ranges (r ∷ rs) g = rw g.0.range (ranges rs g.1)

  pub fits : (rs : List Star) → AllGood (Good moving) rs → AllFitting rs
  fits [] g = tt
  fits (r ∷ rs) g = (g.0.fitting, fits rs g.1)

-- in a list with byte 2 and so in one with byte 3
held : (moving : Bool) (rs : List Star) → AllGood (Good moving) rs → AllGood (Good true) rs
held moving [] g = tt
held moving (r ∷ rs) g = (record { fitting = g.0.fitting; range = g.0.range; held = tt }, held moving rs g.1)

in_range_moves : (s : List ℕ) → is_list s ≡ true → all_in_range (stars s) ≡ true → to_radio s ≡ answered (radio_bytes (stars s))
unfolding to_radio
in_range_moves s l r = rw (l, r)

accepted_moves : (s : List ℕ) (n : ℕ) → accept_rule s ≡ answered n → (t : List ℕ) × (to_list s ≡ answered t)
unfolding to_list accept_rule
accepted_moves s n h = let c = changed (radio_stars s) length n h in (list_bytes c.value, ap (with list_bytes) c.first)

-- ---- the moves: what is answered is undone

module _ (s t : List ℕ) (y : Bytes s) where
  to_radio_undone : to_radio s ≡ answered t → to_list t ≡ answered s
  unfolding to_radio to_list
  to_radio_undone = go (is_list s) refl
    where
      back : is_list s ≡ true → all_in_range (stars s) ≡ true → answered (radio_bytes (stars s)) ≡ answered t → to_list t ≡ answered s
      back l r e =
          let w = bytes_back s (whole s l).1 y in
          let d = written_is_read (stars s) (all_good (stars s) w.fitting r) (omega (arith, few s l, length_stars s)) in
          ap to_list (same_value (sym e)) ∙ rw d (ap answered w.bytes)

      ranged : is_list s ≡ true → (b : Bool) → all_in_range (stars s) ≡ b
          → cond b (answered (radio_bytes (stars s))) (refused 9) ≡ answered t → to_list t ≡ answered s
      ranged l true r h = back l r h
      ranged l false r h = absurd (refused_not_answered h)

      go : (b : Bool) → is_list s ≡ b
          → cond b (cond (all_in_range (stars s)) (answered (radio_bytes (stars s))) (refused 9)) (refused 8) ≡ answered t
          → to_list t ≡ answered s
      go true l h = ranged l (all_in_range (stars s)) refl h
      go false l h = absurd (refused_not_answered h)

  -- either radio list, and what is written again
  pub written_again : to_list s ≡ answered t → WrittenAgain s t
  unfolding to_radio to_list
  written_again h =
      let c = changed (radio_stars s) list_bytes t h in
      let rs = c.value in
      let moving = is_moving s in
      let l = radio_read_was_spelt s rs y c.first in
      record {
        rs = rs;
        was = c.first;
        written = ap to_radio c.is ∙ rw (is_list_lem rs l.most, stars_back rs (fits moving rs l.good), ranges moving rs l.good);
        same = written_is_read rs (held moving rs l.good) l.most;
      }

  to_list_undone : is_moving s ≡ true → to_list s ≡ answered t → to_radio t ≡ answered s
  to_list_undone e h =
      let w = written_again h in
      let l = radio_read_was_spelt s w.rs y w.was in
      w.written ∙ ap answered (as_written w.rs ∙ ap (λ (m : Bool). form_bytes m w.rs) (sym e) ∙ sym l.bytes)

-- stars that stand still, as they were spelt before: each with three numbers, and byte 2
pub byte_two_moves : (rs : List Star) → AllGood (Good false) rs → length rs ≤ most_stars → to_list (form_bytes false rs) ≡ answered (list_bytes rs)
unfolding to_list
byte_two_moves rs g h = rw (radio_spelt_is_read false rs g h)

-- any acceptable list with all records in range moves to the radio form, and back to the same bytes
pub list_to_radio_and_back : (s : List ℕ) → Bytes s → is_list s ≡ true → all_in_range (stars s) ≡ true → ThereAndBack to_radio to_list s
list_to_radio_and_back s y l r = record { moved = radio_bytes (stars s); goes = goes-there; returns = to_radio_undone s (radio_bytes (stars s)) y goes-there }
  where
    goes-there : to_radio s ≡ answered (radio_bytes (stars s))
    goes-there = in_range_moves s l r

-- any accepted radio list that begins with byte 3 moves to the stored list, and back to the same bytes
pub radio_to_list_and_back : (s : List ℕ) (n : ℕ) → Bytes s → is_moving s ≡ true → accept_rule s ≡ answered n → ThereAndBack to_list to_radio s
radio_to_list_and_back s n y e h =
    let m = accepted_moves s n h in record { moved = m.0; goes = m.1; returns = to_list_undone s m.0 y e m.1 }

-- ---- the same of the movers' answers: what the one wrote, the other writes back

record Text (text : Answer (List ℕ)) (new : List ℕ) (n : ℕ) : Type 0 where
  pub t : List ℕ
  pub is : text ≡ answered t
  pub front : take n new ≡ t

put_text : (text : Answer (List ℕ)) (old new : List ℕ) (n : ℕ) → Put text old 0 new (Ok n) → Text text new n
put_text text old new n p =
    let s = put_stands text old new 0 n p in
    record {
      t = s.t;
      is = s.is;
      front = ap (take n) s.slice ∙ take_at s.t (drop (0 + length s.t) old) n (let e = s.after in omega arith);
    }

module _ (s old new : List ℕ) (n : ℕ) (old' new' : List ℕ) (m : ℕ) (y : Bytes s) where
  pub moved_to_radio_and_back : Put (to_radio s) old 0 new (Ok n) → Put (to_list (take n new)) old' 0 new' (Ok m) → take m new' ≡ s
  moved_to_radio_and_back p q =
      let a = put_text (to_radio s) old new n p in
      let b = put_text (to_list (take n new)) old' new' m q in
      b.front ∙ same_value (sym b.is ∙ ap to_list a.front ∙ to_radio_undone s a.t y a.is)

  pub moved_to_list_and_back : is_moving s ≡ true → Put (to_list s) old 0 new (Ok n) → Put (to_radio (take n new)) old' 0 new' (Ok m) → take m new' ≡ s
  moved_to_list_and_back e p q =
      let a = put_text (to_list s) old new n p in
      let b = put_text (to_radio (take n new)) old' new' m q in
      b.front ∙ same_value (sym b.is ∙ ap to_radio a.front ∙ to_list_undone s a.t y e a.is)
