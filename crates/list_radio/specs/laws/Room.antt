-- No radio list is longer than `most_bytes`, so a slice of so many has room for every one; and `deciding_bytes` decide for all that may follow.
use Rattle.std.specs.Prelude.{◌≡◌, Bool, cond, List, [], ◌∷◌, ◌++◌, eqb, ltb, leb}
use Rattle.std.proofs.Math.Path.{refl, ap, subst}
use Rattle.std.proofs.Common.{sym, ◌∙◌, ltb-true, ltb-false, eqb-true, ne_eqb}
use Rattle.std.proofs.Math.Bool.{true, false}
use Prim.Native.Nat.{ℕ, zero, suc, ◌+◌, ◌*◌, ◌≤◌, ◌<◌}
use native.Mathlib.Omega.{arith}
use Rattle.std.proofs.Math.ListN.{length, length-append}
use Rattle.std.proofs.lemmas.Bool.{eqb-false}
use Rattle.quantity.specs.rules.Answer.{Answer, answered, refused, with, then}
use Rattle.list.specs.declared.Star.{Star}
use Rattle.list.specs.rules.Record.{in_range}
use Rattle.list.specs.rules.Stars.{most_stars, Bytes}
use Rattle.list_groups.specs.rules.Groups.{groups}
use Rattle.list_groups.specs.rules.Reading.{Got, read_number}
use Rattle.list_groups.specs.rules.Several.{spell_all, before, read_all}
use Rattle.list_groups.specs.notions.Spelt.{AllGood}
use Rattle.list_groups.specs.notions.Streams.{longer, TakesAtMost}
use Rattle.quantity.specs.laws.Steps.{refused_not_answered, stepped, with_refused}
use Rattle.list_groups.specs.laws.Length.{one_group, two_groups}
use Rattle.list_groups.specs.laws.Inverse.{read_was_spelt}
use Rattle.list_groups.specs.laws.Several.{bytes_after_lem}
use Rattle.list_groups.specs.laws.Streams.{all_stream}
use Rattle.list_groups.specs.laws.Taken.{number_takes_five, all_take_at_most, then_takes_at_most}
use Rattle.list_radio.specs.rules.Star.{number_count, star_groups, star_of, ranged, read_star}
use Rattle.list_radio.specs.rules.Radio.{radio_bytes, is_moving, few, read_count, nothing_over, stars_of, radio_stars}
use Rattle.list_radio.specs.notions.Room.{most_bytes, deciding_bytes}
use Rattle.list_radio.specs.notions.Good.{InRange, Good, form_groups, form_bytes}
use Rattle.list_radio.specs.laws.Star.{at_most_twenty_five, at_most_twenty_one, ranged_back, star_read_was_spelt}
use Rattle.list_radio.specs.laws.Mark.{stars_after, under_mark}
use Rattle.list_radio.specs.laws.Radio.{few_back, as_written, radio_read_was_spelt}
use Rattle.list_radio.specs.laws.Streams.{star_streams, count_streams, radio_refuses}

-- ---- room

-- how many bytes stars take, at most, in range or not
pub twenty_five_a_star : (rs : List Star) → length (spell_all star_groups rs) ≤ 25 * length rs
twenty_five_a_star [] = omega arith
twenty_five_a_star (r ∷ rs) =
    omega (arith, length-append (star_groups r) (spell_all star_groups rs), at_most_twenty_five r, twenty_five_a_star rs)

-- and in range, with yearly changes or without
twenty_one_a_star : (moving : Bool) (rs : List Star) → AllGood InRange rs → length (spell_all (form_groups moving) rs) ≤ 21 * length rs
twenty_one_a_star moving [] g = omega arith
twenty_one_a_star moving (r ∷ rs) g =
    omega
    (arith, length-append (form_groups moving r) (spell_all (form_groups moving) rs), at_most_twenty_one moving r g.0, twenty_one_a_star moving rs g.1)

in_range_lem : (moving : Bool) (rs : List Star) → AllGood (Good moving) rs → AllGood InRange rs
in_range_lem moving [] g = tt
in_range_lem moving (r ∷ rs) g = (g.0.range, in_range_lem moving rs g.1)

count_short : (n : ℕ) → n ≤ most_stars → length (groups n) ≤ 2
count_short n h = go (ltb n 128) refl
  where
    go : (t : Bool) → ltb n 128 ≡ t → length (groups n) ≤ 2
    go true e = omega (arith, one_group n (ltb-true n 128 e))
    go false e = omega (arith, two_groups n (ltb-false n 128 e) (omega arith))

spelt_short : (moving : Bool) (rs : List Star) → AllGood InRange rs → length rs ≤ most_stars → length (form_bytes moving rs) ≤ most_bytes
unfolding form_bytes
spelt_short moving rs g h =
    omega
    (arith, length-append (groups (length rs)) (spell_all (form_groups moving) rs), twenty_one_a_star moving rs g, count_short (length rs) h)

pub radio_short : (rs : List Star) → AllGood InRange rs → length rs ≤ most_stars → length (radio_bytes rs) ≤ most_bytes
radio_short rs g h = omega (arith, ap length (as_written rs), spelt_short true rs g h)

-- what is accepted
pub accepted_has_room : (s : List ℕ) (rs : List Star) → Bytes s → radio_stars s ≡ answered rs → length s ≤ most_bytes
accepted_has_room s rs y h =
    let r = radio_read_was_spelt s rs y h in
    omega (arith, ap length r.bytes, spelt_short (is_moving s) rs (in_range_lem (is_moving s) rs r.good) r.most)

-- ---- bytes that decide

-- a star's numbers, in range or not
star_takes : (moving : Bool) → TakesAtMost (number_count moving * 5) (read_star moving)
unfolding read_star
star_takes moving =
    then_takes_at_most (number_count moving * 5) (read_all read_number (number_count moving))
    (all_take_at_most 5 read_number number_takes_five (number_count moving))
    ranged keeps thirteen
  where
    keeps : (g : Got (List ℕ)) (h : Got Star) → ranged g ≡ answered h → length g.rest ≡ length h.rest
    keeps g h e = ap (λ (x : Got Star). length x.rest) (sym (ranged_back g h e).is)

    thirteen : (g : Got (List ℕ)) → ranged g ≡ refused 13 → ⊥
    thirteen g = go (in_range (star_of g.value))
      where
        go : (t : Bool)
            → cond {A = Answer (Got Star)} t (answered (record { value = star_of g.value; rest = g.rest })) (refused 9) ≡ refused 13
            → ⊥
        go true e = refused_not_answered (sym e)
        go false e = let z : ◌≡◌ {A = ℕ} 9 13 = cc in omega arith

-- where stars end first, all before the last were in range, and the last may have had twenty-five bytes
module _ (moving : Bool) where
  stars_end : (n : ℕ) (bs : List ℕ) → Bytes bs → read_all (read_star moving) n bs ≡ refused 13 → length bs < n * 21 + 4
  unfolding read_all then
  stars_end zero bs y h = absurd (refused_not_answered (sym h))
  stars_end (suc n) bs y h = go (read_star moving bs) refl (stars_end n) h
    where
      most : (t : Bool) → number_count t * 5 ≤ 25
      most true = omega arith
      most false = omega arith

      go : (x : Answer (Got Star)) → read_star moving bs ≡ x
          → ((l : List ℕ) → Bytes l → read_all (read_star moving) n l ≡ refused 13 → length l < n * 21 + 4)
          → then x (λ (f : Got Star). with (before f.value) (read_all (read_star moving) n f.rest)) ≡ refused 13
          → length bs < suc n * 21 + 4
      go (answered f) e ih h =
          let o = star_read_was_spelt moving bs f y e in
          let front = form_groups moving f.value in
          let rest-bytes = bytes_after_lem front f.rest (subst Bytes o.bytes y) in
          let left = ih f.rest rest-bytes (with_refused (read_all (read_star moving) n f.rest) (before f.value) 13 h) in
          omega (arith, ap length o.bytes, length-append front f.rest, at_most_twenty_one moving f.value o.good.range, left)
      go (refused j) e ih h = omega (arith, most moving, (star_takes moving).ends bs (e ∙ ap refused (let q : j ≡ 13 = cc in q)))

count_takes_five : TakesAtMost 5 read_count
unfolding read_count
count_takes_five = then_takes_at_most 5 read_number number_takes_five few keeps thirteen
  where
    keeps : (g h : Got ℕ) → few g ≡ answered h → length g.rest ≡ length h.rest
    keeps g h e = ap (λ (x : Got ℕ). length x.rest) (sym (few_back g h e).is)

    thirteen : (g : Got ℕ) → few g ≡ refused 13 → ⊥
    thirteen g = go (leb g.value most_stars)
      where
        go : (t : Bool) → cond {A = Answer (Got ℕ)} t (answered g) (refused 8) ≡ refused 13 → ⊥
        go true e = refused_not_answered (sym e)
        go false e = let z : ◌≡◌ {A = ℕ} 8 13 = cc in omega arith

still_over : (g : Got (List Star)) (more : List ℕ) → nothing_over g ≡ refused 13 → nothing_over (longer more g) ≡ refused 13
still_over g more = go (eqb (length g.rest) 0) refl
  where
    go : (t : Bool) → eqb (length g.rest) 0 ≡ t → cond t (answered g.value) (refused 13) ≡ refused 13
        → nothing_over (longer more g) ≡ refused 13
    go true e h = absurd (refused_not_answered (sym h))
    go false e h =
        rw
        (ne_eqb (length (g.rest ++ more)) 0 (λ z. eqb-false (length g.rest) 0 e (omega (arith, length-append g.rest more))))

-- a count, and bytes after it that decide
record Counted (g : Got ℕ) : Type 0 where
  pub long : g.value * 21 + 4 ≤ length g.rest
  pub bytes : Bytes g.rest

module _ (more : List ℕ) where
  -- thirteen of so many bytes is for bytes over
  stars_over : (moving : Bool) (n : ℕ) (bs : List ℕ) → Bytes bs → n * 21 + 4 ≤ length bs → stars_of moving n bs ≡ refused 13
      → stars_of moving n (bs ++ more) ≡ refused 13
  unfolding stars_of
  stars_over moving n bs y long = go (read_all (read_star moving) n bs) refl
    where
      go : (x : Answer (Got (List Star))) → read_all (read_star moving) n bs ≡ x → then x nothing_over ≡ refused 13
          → then (read_all (read_star moving) n (bs ++ more)) nothing_over ≡ refused 13
      go (answered g) e h = rw ((all_stream (read_star moving) (star_streams moving) n).answers bs more g e) (still_over g more h)
      go (refused j) e h = absurd (let z = stars_end moving n bs y (e ∙ ap refused (let q : j ≡ 13 = cc in q)) in omega arith)

  after_mark : (moving : Bool) (bs : List ℕ) → Bytes bs → most_bytes + 3 ≤ length bs
      → then (read_count bs) (stars_after moving) ≡ refused 13 → then (read_count (bs ++ more)) (stars_after moving) ≡ refused 13
  unfolding then read_count
  after_mark moving bs y long = go (read_count bs) refl
    where
      counted : (g : Got ℕ) → read_count bs ≡ answered g → Counted g
      counted g e =
          let s = stepped (read_number bs) few g e in
          let f = few_back s.value g s.next in
          let n = read_was_spelt bs s.value y s.first in
          let front = groups s.value.value in
          let long-is = ap length n.bytes ∙ length-append front s.value.rest in
          subst Counted (sym f.is)
          (record {
            long = omega (arith, f.most, count_short s.value.value f.most, long-is);
            bytes = bytes_after_lem front s.value.rest (subst Bytes n.bytes y);
          })

      go : (x : Answer (Got ℕ)) → read_count bs ≡ x → then x (stars_after moving) ≡ refused 13
          → then (read_count (bs ++ more)) (stars_after moving) ≡ refused 13
      go (answered g) e h =
          let k = counted g e in
          rw (count_streams.answers bs more g e) (stars_over moving g.value g.rest k.bytes k.long h)
      go (refused j) e h = absurd (let z = count_takes_five.ends bs (e ∙ ap refused (let q : j ≡ 13 = cc in q)) in omega arith)

  thirteen_stays : (s : List ℕ) → Bytes s → deciding_bytes ≤ length s → radio_stars s ≡ refused 13 → radio_stars (s ++ more) ≡ refused 13
  thirteen_stays [] y long h = absurd (omega arith)
  thirteen_stays (b ∷ bs) y long h =
      under_mark more b bs 13 (λ (moving : Bool). after_mark moving bs (λ (i : ℕ). y (suc i)) (omega arith)) h

  -- what is read of so many bytes is read of all
  pub stars_decided : (s : List ℕ) → Bytes s → deciding_bytes ≤ length s → radio_stars (s ++ more) ≡ radio_stars s
  stars_decided s y long = go (radio_stars s) refl
    where
      go : (x : Answer (List Star)) → radio_stars s ≡ x → radio_stars (s ++ more) ≡ radio_stars s
      go (answered rs) e = absurd (let z = accepted_has_room s rs y e in omega arith)
      go (refused k) e = by (eqb k 13) refl
        where
          by : (t : Bool) → eqb k 13 ≡ t → radio_stars (s ++ more) ≡ radio_stars s
          by true is = thirteen_stays s y long (e ∙ ap refused (eqb-true k 13 is)) ∙ ap refused (sym (eqb-true k 13 is)) ∙ sym e
          by false is = radio_refuses k (eqb-false k 13 is) more s e ∙ sym e
