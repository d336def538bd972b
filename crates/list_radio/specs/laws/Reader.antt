-- A list is accepted as it is opened, and then star by star.
use Rattle.std.specs.Prelude.{◌≡◌, Bool, List, ℕ, eqb, length, drop}
use Rattle.std.proofs.Common.{sym}
use Rattle.std.proofs.Math.Bool.{true, false, cond}
use Rattle.quantity.specs.rules.Answer.{Answer, answered, refused, with, then}
use Rattle.list.specs.declared.Star.{Star}
use Rattle.list_groups.specs.rules.Reading.{Got, read_at}
use Rattle.quantity.specs.laws.Steps.{refused_not_answered}
use Rattle.list_groups.specs.laws.Tails.{found, not_found}
use Rattle.list_radio.specs.rules.Radio.{mark_refusal, is_moving, read_count, stars_of, radio_stars}
use Rattle.list_radio.specs.rules.Reader.{open_rule, accept_rule}
use Rattle.list_radio.specs.laws.Radio.{count_leaves_tail}

module _ (s : List ℕ) where
  abbrev stars : Got ℕ → Answer (List Star)
  stars g = stars_of (is_moving s) g.value g.rest

  -- what refuses the head refuses the list
  pub head_refused : (k : ℕ) → refused k ≡ open_rule s → radio_stars s ≡ refused k
  unfolding open_rule radio_stars
  head_refused k = go (eqb (mark_refusal s) 0)
    where
      go : (t : Bool) → refused k ≡ cond t (read_at read_count s 1) (refused (mark_refusal s))
          → cond t (then (read_count (drop 1 s)) stars) (refused (mark_refusal s)) ≡ refused k
      go true e = rw (not_found read_count s 1 k e)
      go false e = cc

  -- and where the head is answered, the stars are read from the offset that it answers
  pub head_answered : (n first : ℕ) → answered (record { value = n; offset = first }) ≡ open_rule s → radio_stars s ≡ stars_of (is_moving s) n (drop first s)
  unfolding open_rule radio_stars
  head_answered n first = go (eqb (mark_refusal s) 0)
    where
      go : (t : Bool) → answered (record { value = n; offset = first }) ≡ cond t (read_at read_count s 1) (refused (mark_refusal s))
          → cond t (then (read_count (drop 1 s)) stars) (refused (mark_refusal s)) ≡ stars_of (is_moving s) n (drop first s)
      go true e = rw (found read_count s 1 count_leaves_tail n first e).read_so
      go false e = absurd (refused_not_answered (sym e))

  pub accept_refused : (k : ℕ) → refused k ≡ open_rule s → refused k ≡ accept_rule s
  unfolding accept_rule
  accept_refused k e = rw (head_refused k e)

  pub accept_answered : (n first : ℕ) → answered (record { value = n; offset = first }) ≡ open_rule s
      → with length (stars_of (is_moving s) n (drop first s)) ≡ accept_rule s
  unfolding accept_rule
  accept_answered n first e = rw (head_answered n first e)
