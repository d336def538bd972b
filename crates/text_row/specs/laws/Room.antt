-- A number below 2^32 fills its column of ten, and a row of either table has 145 bytes at most.
use Rattle.std.specs.Prelude.{ℕ, ◌+◌, ◌-◌, ◌/◌, ◌%◌, ◌≤◌, ◌<◌, ◌≡◌, Bool, List, [], ◌∷◌, ◌++◌, eqb, ltb, Float, length, take}
use Rattle.std.proofs.Common.{arith, length-append, length-take-le}
use Rattle.double.specs.rules.Sign.{size}
use Rattle.quantity.specs.declared.Rad.{Rad}
use Rattle.quantity.specs.rules.Answer.{Answer, answered, refused, Triple, triple}
use Rattle.units.specs.rules.Degrees.{to_degrees}
use Rattle.units.specs.rules.Nearest.{nearest_whole, has_minus}
use Rattle.text_number.specs.rules.Bytes.{ascii, line_end, point}
use Rattle.text_number.specs.rules.Number.{decimal_text}
use Rattle.text_number.specs.laws.Number.{decimal_short, any_decimal_short}
use Rattle.text_time.specs.rules.Time.{seconds_of, two_digits, clock_text}
use Rattle.text_time.specs.laws.Clock.{two_digits_lem}
use Rattle.text_time.specs.laws.Room.{clock_short, again_short, why_short}
use Rattle.text_refusal.specs.laws.Room.{either_short, refusal_short}
use Rattle.text_row.specs.rules.Place.{hours_text, hundredths, arc_text, degrees_text}
use Rattle.text_row.specs.rules.Row.{column_text, place_text, row_of}
use Rattle.text_row.specs.rules.PlanRow.{times_row, why_row, outcome_row, plan_row}
use Rattle.text_row.specs.laws.Place.{hours_twelve_bytes}

column_length : (n : ℕ) → length (column_text n) ≡ (10 - length (decimal_text n)) + length (decimal_text n)
unfolding column_text
column_length n =
    let k = 10 - length (decimal_text n) in
    omega (arith, length-append (take k (ascii "          ")) (decimal_text n), length-take-le k (ascii "          ") (omega arith))

pub column_ten_bytes : (n : ℕ) → n < 4294967296 → length (column_text n) ≡ 10
column_ten_bytes n h = omega (arith, column_length n, decimal_short n h)

arc_short : (minus : Bool) (n : ℕ) → length (arc_text minus n) ≤ 31
unfolding arc_text
arc_short minus n =
    omega (
      arith,
      length-append (clock_text (n / 100)) (point ∷ two_digits (n % 100)),
      clock_short (n / 100),
      two_digits_lem (n % 100) (omega arith),
    )

degrees_short : (x : Rad) → length (degrees_text x) ≤ 31
unfolding degrees_text
degrees_short x =
    let y = hundredths (to_degrees x) in
    arc_short (has_minus y (nearest_whole (size y))) (nearest_whole (size y))

place_text_short : (asc dec : Rad) → length (place_text asc dec) ≤ 49
unfolding place_text
place_text_short asc dec =
    let end : List ℕ = line_end ∷ [] in
    omega (
      arith,
      length-append (hours_text asc) (ascii "     " ++ (degrees_text dec ++ end)),
      length-append (degrees_text dec) end,
      hours_twelve_bytes asc,
      degrees_short dec,
    )

-- a number, then such a text
in_row : (number : ℕ) (t : List ℕ) → length t ≤ 123 → length (column_text number ++ (ascii "  " ++ t)) ≤ 145
in_row number t h =
    omega (arith, length-append (column_text number) (ascii "  " ++ t), column_length number, any_decimal_short number)

pub row_short : (number status : ℕ) (asc dec : Rad) → length (row_of number status asc dec) ≤ 145
unfolding row_of
row_short number status asc dec =
    in_row number _
    (either_short 123 (eqb status 0) _ _ (omega (arith, place_text_short asc dec)) (refusal_short status))

outcome_short : (a : Answer Triple) (again : Float) → length (outcome_row a again) ≤ 123
unfolding times_row why_row
outcome_short (answered (triple x y z)) again =
    let a = clock_short (seconds_of x) in
    let b = clock_short (seconds_of y) in
    let c = clock_short (seconds_of z) in
    let d = again_short again in
    simp length-append (omega arith)
outcome_short (refused n) again = either_short 123 (ltb n 15) _ _ (refusal_short n) (omega (arith, why_short n))

pub plan_row_short : (number : ℕ) (a : Answer Triple) (again : Float) → length (plan_row number a again) ≤ 145
unfolding plan_row
plan_row_short number a again = in_row number (outcome_row a again) (outcome_short a again)
