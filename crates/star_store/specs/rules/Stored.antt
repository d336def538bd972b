-- A call that answers every star of a list by one rule: what it refuses, what it answers, and what stands in the memory lent to it.
use Rattle.std.specs.Prelude.{ℕ, ◌≡◌, Bool, cond, ◌&&◌, List, ◌++◌, map, eqb, leb, Float, length, drop, Result, Ok, Err}
use Rattle.quantity.specs.declared.Refusal.{Refusal}
use Rattle.quantity.specs.rules.Answer.{Answer, Pair, number, status_of}
use Rattle.precess_angles.specs.rules.Days.{days_refusal}
use Rattle.list.specs.declared.Star.{Star}
use Rattle.list.specs.rules.Stars.{is_list, count_of, stars}
use Rattle.list_tally.specs.declared.Tally.{Tally}
use Rattle.list_tally.specs.rules.Tally.{tally_of, empty}
use Rattle.star_store.specs.rules.Star.{first_bits, second_bits}

-- each slice has a place for each star
abbrev pub has_room : ℕ → ℕ → ℕ → ℕ → Bool
has_room n status asc dec = leb n status && (leb n asc && leb n dec)

-- 1 and 2 for the days, then 8 for the list and for slices of these lengths
unfoldable pub store_refusal : List ℕ → Float → Float → ℕ → ℕ → ℕ → ℕ
store_refusal s day1 day2 status asc dec =
    cond (eqb (days_refusal day1 day2) 0)
    (cond (is_list s && has_room (count_of s) status asc dec) 0 8)
    (days_refusal day1 day2)

-- every star's answer by a rule, in the list's order
abbrev pub answers_by : (Star → Answer Pair) → List ℕ → List (Answer Pair)
answers_by rule s = map rule (stars s)

abbrev pub statuses_by : (Star → Answer Pair) → List ℕ → List ℕ
statuses_by rule s = map status_of (answers_by rule s)

-- a call's refusal, where 0 is none, beside its tally
pub record Tallied : Type 0 where
  pub refusal : ℕ
  pub tally : Tally

abbrev pub shown_tallied : Result Tally Refusal → Tallied
shown_tallied (Ok t) = record { refusal = 0; tally = t }
shown_tallied (Err e) = record { refusal = number e; tally = empty }

-- the tally of every star's status; of a refused call, of none
abbrev pub tallied_rule : ℕ → List ℕ → Tallied
tallied_rule refusal statuses = record { refusal = refusal; tally = cond (eqb refusal 0) (tally_of statuses) empty }

-- a lent slice afterwards: the new values over its front, and the rest as it was; of a refused call, all as it was
abbrev pub lent_rule : {A : Type 0} → ℕ → List A → List A → List A
lent_rule refusal new old = cond (eqb refusal 0) (new ++ drop (length new) old) old

-- what a call leaves: its answer, and the contents of the three slices, the angles as their bits
pub record StarsStored (rule : Star → Answer Pair) (s : List ℕ) (day1 day2 : Float) (status asc dec : List ℕ) (r : Result Tally Refusal)
    (status' asc' dec' : List ℕ) : Type 0 where
  pub answer : shown_tallied r ≡ tallied_rule (store_refusal s day1 day2 (length status) (length asc) (length dec)) (statuses_by rule s)
  pub statuses : status' ≡ lent_rule (store_refusal s day1 day2 (length status) (length asc) (length dec)) (statuses_by rule s) status
  pub ascs : asc' ≡ lent_rule (store_refusal s day1 day2 (length status) (length asc) (length dec)) (map first_bits (answers_by rule s)) asc
  pub decs : dec' ≡ lent_rule (store_refusal s day1 day2 (length status) (length asc) (length dec)) (map second_bits (answers_by rule s)) dec
