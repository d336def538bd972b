-- How long a reason in words is, at most.
use Rattle.std.specs.Prelude.{ℕ, ◌+◌, ◌≤◌, List, length}
use Rattle.std.proofs.Common.{arith, length-append}
use Rattle.text_date.specs.declared.Reason.{Reason}
use Rattle.text_date.specs.declared.Reason.TheVariants.{
  NoDate,
  NoMonth,
  NoDay,
  TooEarly,
  TooLate,
  NoTime,
  NoZ,
  NoFraction,
  NoHour,
  NoMinute,
  NoSecond,
}
use Rattle.text_day.specs.rules.Reason.{reason_text, complaint_text}

pub reason_short : (k : Reason) → length (reason_text k) ≤ 111
unfolding reason_text
reason_short NoDate = omega arith
reason_short NoMonth = omega arith
reason_short NoDay = omega arith
reason_short TooEarly = omega arith
reason_short TooLate = omega arith
reason_short NoTime = omega arith
reason_short NoZ = omega arith
reason_short NoFraction = omega arith
reason_short NoHour = omega arith
reason_short NoMinute = omega arith
reason_short NoSecond = omega arith

-- and a complaint
pub complaint_short : (name word : List ℕ) (k : Reason) → length (complaint_text name word k) ≤ length name + length word + 120
unfolding complaint_text
complaint_short name word k = let h = reason_short k in simp length-append (omega arith)
