-- How long a star's line is, at most.
use Rattle.std.specs.Prelude.{ℕ, ◌/◌, ◌%◌, ◌≤◌, Bool, true, false, cond, [], ◌∷◌, ◌++◌, eqb, ltb, Float, length}
use Rattle.std.proofs.Common.{arith, length-append}
use Rattle.std.specs.Float.Ieee.{lt}
use Rattle.quantity.specs.rules.Answer.{Answer, answered, refused, Triple, triple}
use Rattle.text_number.specs.rules.Bytes.{ascii, space, colon, digit0}
use Rattle.text_number.specs.rules.Number.{decimal_text}
use Rattle.text_number.specs.rules.Refused.{refused_text}
use Rattle.text_number.specs.laws.Number.{any_decimal_short, refused_short}
use Rattle.double.specs.rules.Operations.{one}
use Rattle.text_time.specs.rules.Time.{seconds_of, two_digits, clock_text, time_text}
use Rattle.text_time.specs.rules.Line.{time_then, again_text, times_text, why_text, outcome_text, plan_line}
use Rattle.text_time.specs.laws.Clock.{two_digits_lem}

any_two_short : (n : ℕ) → length (two_digits n) ≤ 21
unfolding two_digits
any_two_short n = by_case (ltb n 10)
  where
    by_case : (b : Bool) → length (cond b (digit0 ∷ decimal_text n) (decimal_text n)) ≤ 21
    by_case true = omega (arith, any_decimal_short n)
    by_case false = omega (arith, any_decimal_short n)

pub clock_short : (n : ℕ) → length (clock_text n) ≤ 27
unfolding clock_text
clock_short n =
    let s = two_digits (n % 60) in
    let m = two_digits (n / 60 % 60) in
    let h = two_digits (n / 3600) in
    omega (
      arith,
      length-append h (colon ∷ (m ++ (colon ∷ s))),
      length-append m (colon ∷ s),
      any_two_short (n / 3600),
      two_digits_lem (n / 60 % 60) (omega arith),
      two_digits_lem (n % 60) (omega arith),
    )

time_short : (x : Float) (end : ℕ) → length (time_then x end) ≤ 28
unfolding time_then
time_short x end =
    let n = seconds_of x in
    omega (arith, length-append (clock_text n) (end ∷ []), clock_short n)

pub why_short : (n : ℕ) → length (why_text n) ≤ 29
unfolding why_text
why_short n = by_case (eqb n 15) (eqb n 16)
  where
    by_case : (a b : Bool) → length (cond a (ascii "never rises\n") (cond b (ascii "never sets\n") (refused_text n))) ≤ 29
    by_case true b = omega arith
    by_case false true = omega arith
    by_case false false = refused_short n

pub again_short : (x : Float) → length (again_text x) ≤ 34
unfolding again_text
again_short x = by_case (lt x one)
  where
    by_case : (b : Bool) → length (cond b (ascii " again " ++ time_text x) []) ≤ 34
    by_case true = omega (arith, length-append (ascii " again ") (time_text x), clock_short (seconds_of x))
    by_case false = omega arith

outcome_short : (a : Answer Triple) (again : Float) → length (outcome_text a again) ≤ 118
unfolding times_text
outcome_short (answered (triple x y z)) again =
    let a = time_short x space in
    let b = time_short y space in
    let c = clock_short (seconds_of z) in
    let d = again_short again in
    simp length-append (omega arith)
outcome_short (refused n) again = omega (arith, why_short n)

pub line_short : (number : ℕ) (a : Answer Triple) (again : Float) → length (plan_line number a again) ≤ 139
unfolding plan_line
line_short number a again =
    omega (arith, length-append (decimal_text number) (space ∷ outcome_text a again), any_decimal_short number, outcome_short a again)
