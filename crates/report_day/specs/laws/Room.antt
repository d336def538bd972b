-- The text of any day has room in `room` bytes.
use Rattle.std.specs.Prelude.{ℕ, zero, suc, ◌/◌, ◌%◌, ◌≤◌, Bool, true, false, cond, [], ◌∷◌, eqb, Float, length}
use Rattle.std.proofs.Common.{arith, length-append}
use Rattle.quantity.specs.declared.Rad.{Rad}
use Rattle.quantity.specs.rules.Refusal.{day_refusal}
use Rattle.sidereal.specs.rules.Mean.{mean_of}
use Rattle.sidereal.specs.rules.Apparent.{apparent_of}
use Rattle.text_number.specs.rules.Bytes.{point}
use Rattle.text_number.specs.rules.Number.{decimal_text}
use Rattle.text_number.specs.rules.Refused.{refused_text}
use Rattle.text_number.specs.laws.Number.{any_decimal_short, refused_short}
use Rattle.text_time.specs.laws.Clock.{two_digits_lem}
use Rattle.text_row.specs.laws.Place.{hours_twelve_bytes}
use Rattle.report_day.specs.rules.Digits.{whole_day, parts_of, left_of, digits_text, exact_text}
use Rattle.report_day.specs.rules.Day.{millionths_of, six_digits, degrees_text, angle_text, open_text, day_text, day_of, room}

digits_short : (n left : ℕ) → length (digits_text n left) ≤ n
unfolding digits_text
digits_short zero left = omega arith
digits_short (suc n) left = by_case (eqb (left_of left) 0) (digits_short n (left_of left))
  where
    by_case : (b : Bool) → length (digits_text n (left_of left)) ≤ n → suc (length (cond b [] (digits_text n (left_of left)))) ≤ suc n
    by_case true h = omega arith
    by_case false h = omega arith

exact_short : (day : Float) → length (exact_text day) ≤ 53
unfolding exact_text
exact_short day =
    omega (
      arith,
      length-append (decimal_text (parts_of day / whole_day)) (point ∷ digits_text 32 (parts_of day)),
      any_decimal_short (parts_of day / whole_day),
      digits_short 32 (parts_of day),
    )

pub six_digits_lem : (n : ℕ) → length (six_digits n) ≤ 6
unfolding six_digits
six_digits_lem n =
    let a = two_digits_lem (n / 10000 % 100) (omega arith) in
    let b = two_digits_lem (n / 100 % 100) (omega arith) in
    let c = two_digits_lem (n % 100) (omega arith) in
    simp length-append (omega arith)

angle_short : (x : Rad) → length (angle_text x) ≤ 56
unfolding angle_text degrees_text
angle_short x =
    let n = millionths_of x in
    let a = any_decimal_short (n / 1000000) in
    let b = six_digits_lem n in
    let c = hours_twelve_bytes x in
    simp length-append (omega arith)

pub open_short : (utc : Bool) → length (open_text utc) ≤ 58
unfolding open_text
open_short true = omega arith
open_short false = omega arith

text_short : (day : Float) (mean apparent : Rad) (utc : Bool) → length (day_text day mean apparent utc) ≤ 320
unfolding day_text
text_short day mean apparent utc =
    let a = exact_short day in
    let b = angle_short mean in
    let c = angle_short apparent in
    let d = open_short utc in
    simp length-append (omega arith)

pub has_room_lem : (day : Float) (utc : Bool) → length (day_of day utc) ≤ room
unfolding day_of
has_room_lem day utc = by_case (eqb (day_refusal day) 0)
  where
    by_case : (b : Bool) → length (cond b (day_text day (mean_of day) (apparent_of day) utc) (refused_text (day_refusal day))) ≤ room
    by_case true = text_short day (mean_of day) (apparent_of day) utc
    by_case false = omega (arith, refused_short (day_refusal day))
