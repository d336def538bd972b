-- What storing one star leaves, and what a call has stored after some of its stars, by any rule of a star.
use Rattle.std.specs.Prelude.{ℕ, ◌≤◌, ◌≡◌, List, map, Float, length, take, set}
use Rattle.quantity.specs.rules.Answer.{Answer, Pair, status_of}
use Rattle.lent.specs.notions.Rows.{Row}
use Rattle.list.specs.declared.Star.{Star}
use Rattle.list.specs.rules.Stars.{count_of}
use Rattle.list_tally.specs.declared.Tally.{Tally}
use Rattle.list_tally.specs.rules.Status.{highest_status}
use Rattle.list_tally.specs.rules.Tally.{raise_rule, tally_of}
use Rattle.star_store.specs.rules.Star.{first_bits, second_bits}
use Rattle.star_store.specs.rules.Stored.{store_refusal, answers_by, statuses_by}

-- an answer is stored at place i
pub record Placed (i : ℕ) (a : Answer Pair) (status asc dec status' asc' dec' : List ℕ) : Type 0 where
  pub status_set : status' ≡ set status i (status_of a)
  pub asc_set : asc' ≡ set asc i (first_bits a)
  pub dec_set : dec' ≡ set dec i (second_bits a)

-- and its status raises the tally
pub record StarStored (i : ℕ) (a : Answer Pair) (tally : Tally) (status asc dec : List ℕ) (tally' : Tally) (status' asc' dec' : List ℕ) : Type 0 where
  pub raised : tally' ≡ (raise_rule tally (status_of a)).tally
  pub status_set : status' ≡ set status i (status_of a)
  pub asc_set : asc' ≡ set asc i (first_bits a)
  pub dec_set : dec' ≡ set dec i (second_bits a)

-- a call that is not refused, whose rule has statuses that the tally knows
pub record Begun (rule : Star → Answer Pair) (s : List ℕ) (day1 day2 : Float) (status asc dec : List ℕ) : Type 0 where
  pub none : store_refusal s day1 day2 (length status) (length asc) (length dec) ≡ 0
  pub known : (star : Star) → status_of (rule star) ≤ highest_status

-- the first i stars' values are stored over the slices' fronts, and the tally is that of their statuses
pub record Upto (rule : Star → Answer Pair) (s : List ℕ) (status₀ asc₀ dec₀ : List ℕ) (i : ℕ) (tally : Tally) (status asc dec : List ℕ) : Type 0 where
  pub counted : tally ≡ tally_of (take i (statuses_by rule s))
  pub statuses : Row (statuses_by rule s) status₀ status (count_of s) i
  pub ascs : Row (map first_bits (answers_by rule s)) asc₀ asc (count_of s) i
  pub decs : Row (map second_bits (answers_by rule s)) dec₀ dec (count_of s) i
