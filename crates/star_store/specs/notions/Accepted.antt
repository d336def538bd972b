-- What is known of a call that is not refused.
use Rattle.std.specs.Prelude.{ℕ, ◌≤◌, ◌≡◌, true, List, Float}
use Rattle.precess_angles.specs.rules.Days.{days_refusal}
use Rattle.list.specs.rules.Stars.{is_list, count_of}

pub record Accepted (s : List ℕ) (day1 day2 : Float) (status asc dec : ℕ) : Type 0 where
  pub days : days_refusal day1 day2 ≡ 0
  pub list : is_list s ≡ true
  pub statuses : count_of s ≤ status
  pub ascs : count_of s ≤ asc
  pub decs : count_of s ≤ dec
