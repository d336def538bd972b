-- A radio list is refused at the byte that shows it: where it is refused by another number than 13, which is for bytes that end first or
-- stand over, no byte after it matters.
use Rattle.std.specs.Prelude.{◌≡◌, Bool, true, false, cond, ℕ, eqb, leb}
use Rattle.std.proofs.Math.Path.{refl, ap}
use Rattle.std.proofs.Common.{sym, ◌∙◌, arith}
use mathlib.Core.List.{List, [], ◌∷◌, ◌++◌}
use Rattle.std.proofs.Math.ListN.{length}
use Rattle.quantity.specs.rules.Answer.{Answer, answered, refused, with, then}
use Rattle.list.specs.declared.Star.{Star}
use Rattle.list.specs.rules.Record.{in_range}
use Rattle.list.specs.rules.Stars.{most_stars}
use Rattle.list_groups.specs.rules.Reading.{Got, read_number}
use Rattle.list_groups.specs.rules.Several.{read_all}
use Rattle.quantity.specs.laws.Steps.{refused_not_answered, with_refused}
use Rattle.list_groups.specs.notions.Streams.{longer, Streams}
use Rattle.list_groups.specs.laws.Streams.{number_streams, all_stream, then_streams}
use Rattle.list_radio.specs.rules.Star.{number_count, star_of, ranged, read_star}
use Rattle.list_radio.specs.rules.Radio.{mark_refusal, few, read_count, nothing_over, stars_of, radio_stars}
use Rattle.list_radio.specs.rules.Reader.{accept_rule}
use Rattle.list_radio.specs.laws.Mark.{stars_after, under_mark}

-- ---- a star, and the count

ranged_passes : (g : Got (List ℕ)) (h : Got Star) (more : List ℕ) → ranged g ≡ answered h
    → ranged (longer more g) ≡ answered (longer more h)
ranged_passes g h more = go (in_range (star_of g.value))
  where
    go : (t : Bool) → cond t (answered (record { value = star_of g.value; rest = g.rest })) (refused 9) ≡ answered h
        → cond t (answered (record { value = star_of g.value; rest = g.rest ++ more })) (refused 9) ≡ answered (longer more h)
    go true e = ap (λ (x : Got Star). answered (longer more x)) (let q : record { value = star_of g.value; rest = g.rest } ≡ h = cc in q)
    go false e = absurd (refused_not_answered e)

ranged_stops : (g : Got (List ℕ)) (k : ℕ) (more : List ℕ) → ranged g ≡ refused k → ranged (longer more g) ≡ refused k
ranged_stops g k more = go (in_range (star_of g.value))
  where
    go : (t : Bool)
        → cond {A = Answer (Got Star)} t (answered (record { value = star_of g.value; rest = g.rest })) (refused 9) ≡ refused k
        → cond {A = Answer (Got Star)} t (answered (record { value = star_of g.value; rest = g.rest ++ more })) (refused 9) ≡ refused k
    go true e = absurd (refused_not_answered (sym e))
    go false e = e

pub star_streams : (moving : Bool) → Streams (read_star moving)
unfolding read_star
star_streams moving =
    then_streams (read_all read_number (number_count moving)) (all_stream read_number number_streams (number_count moving)) ranged
    ranged_passes ranged_stops

few_passes : (g h : Got ℕ) (more : List ℕ) → few g ≡ answered h → few (longer more g) ≡ answered (longer more h)
few_passes g h more = go (leb g.value most_stars)
  where
    go : (t : Bool) → cond t (answered g) (refused 8) ≡ answered h
        → cond t (answered (longer more g)) (refused 8) ≡ answered (longer more h)
    go true e = ap (λ (x : Got ℕ). answered (longer more x)) (let q : g ≡ h = cc in q)
    go false e = absurd (refused_not_answered e)

few_stops : (g : Got ℕ) (k : ℕ) (more : List ℕ) → few g ≡ refused k → few (longer more g) ≡ refused k
few_stops g k more = go (leb g.value most_stars)
  where
    go : (t : Bool) → cond {A = Answer (Got ℕ)} t (answered g) (refused 8) ≡ refused k
        → cond {A = Answer (Got ℕ)} t (answered (longer more g)) (refused 8) ≡ refused k
    go true e = absurd (refused_not_answered (sym e))
    go false e = e

pub count_streams : Streams read_count
unfolding read_count
count_streams = then_streams read_number number_streams few few_passes few_stops

-- ---- the whole list

over_only_thirteen : (g : Got (List Star)) (k : ℕ) → nothing_over g ≡ refused k → k ≡ 13
over_only_thirteen g k = go (eqb (length g.rest) 0)
  where
    go : (t : Bool) → cond {A = Answer (List Star)} t (answered g.value) (refused 13) ≡ refused k → k ≡ 13
    go true e = absurd (refused_not_answered (sym e))
    go false e = cc

module _ (k : ℕ) (no_end : k ≡ 13 → ⊥) (more : List ℕ) where
  stars_refuse : (moving : Bool) (n : ℕ) (bs : List ℕ) → stars_of moving n bs ≡ refused k → stars_of moving n (bs ++ more) ≡ refused k
  unfolding stars_of
  stars_refuse moving n bs = go (read_all (read_star moving) n bs) refl
    where
      go : (x : Answer (Got (List Star))) → read_all (read_star moving) n bs ≡ x → then x nothing_over ≡ refused k
          → then (read_all (read_star moving) n (bs ++ more)) nothing_over ≡ refused k
      go (answered g) e h = absurd (no_end (over_only_thirteen g k h))
      go (refused j) e h =
          rw ((all_stream (read_star moving) (star_streams moving) n).refuses bs more k (e ∙ ap refused (let q : j ≡ k = cc in q)) no_end)

  after_mark : (moving : Bool) (bs : List ℕ) → then (read_count bs) (stars_after moving) ≡ refused k
      → then (read_count (bs ++ more)) (stars_after moving) ≡ refused k
  unfolding then
  after_mark moving bs = go (read_count bs) refl
    where
      go : (x : Answer (Got ℕ)) → read_count bs ≡ x → then x (stars_after moving) ≡ refused k
          → then (read_count (bs ++ more)) (stars_after moving) ≡ refused k
      go (answered g) e h = rw (count_streams.answers bs more g e) (stars_refuse moving g.value g.rest h)
      go (refused j) e h = rw (count_streams.refuses bs more k (e ∙ ap refused (let q : j ≡ k = cc in q)) no_end)

  pub radio_refuses : (s : List ℕ) → radio_stars s ≡ refused k → radio_stars (s ++ more) ≡ refused k
  unfolding radio_stars mark_refusal
  radio_refuses [] h = absurd (no_end (let q : k ≡ 13 = cc in q))
  radio_refuses (b ∷ bs) h = under_mark more b bs k (λ (moving : Bool). after_mark moving bs) h

  -- 8, 9, 11 and 12 at the byte that shows it
  pub refused_at_its_byte : (s : List ℕ) → accept_rule s ≡ refused k → accept_rule (s ++ more) ≡ refused k
  unfolding accept_rule
  refused_at_its_byte s h = ap (with length) (radio_refuses s (with_refused (radio_stars s) length k h))

pub twelve_at_its_byte : (s more : List ℕ) → accept_rule s ≡ refused 12 → accept_rule (s ++ more) ≡ refused 12
twelve_at_its_byte s more h = refused_at_its_byte 12 (λ e. omega arith) more s h
