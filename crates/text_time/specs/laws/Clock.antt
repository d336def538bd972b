-- A clock below a hundred hours, as a time up to the end of a day is, has eight bytes, two digits to each part; and what the parts say is
-- the seconds.
use Rattle.std.specs.Prelude.{ℕ, suc, ◌+◌, ◌*◌, ◌/◌, ◌%◌, ◌≤◌, ◌<◌, ◌≡◌, refl, Bool, true, false, cond, [], ◌∷◌, ◌++◌, ltb, length, Float}
use Rattle.std.proofs.Common.{arith, length-append, lt-ltb, le-ltb, ltb-true, ltb-false}
use Rattle.double.specs.rules.Operations.{zero, one}
use Rattle.double.specs.rules.Order.{Between}
use Rattle.text_number.specs.rules.Bytes.{ascii, colon, digit0}
use Rattle.text_number.specs.rules.Number.{decimal_in, decimal_text}
use Rattle.text_time.specs.rules.Time.{two_digits, three_digits, clock_text, time_text, seconds_of}
use Rattle.text_time.specs.notions.Computed.{computed}
use Rattle.text_time.specs.laws.Seconds.{seconds_at_most}

-- a number below 10 has one digit
pub one_digit_lem : (f n : ℕ) → n < 10 → length (decimal_in (suc f) n) ≡ 1
unfolding decimal_in
one_digit_lem f n h = rw (lt-ltb n 10 h)

pub two_digits_lem : (n : ℕ) → n < 100 → length (two_digits n) ≡ 2
unfolding two_digits decimal_in
two_digits_lem n h = by_case (ltb n 10) refl
  where
    by_case : (b : Bool) → ltb n 10 ≡ b
        → length (cond b (digit0 ∷ cond b ((digit0 + n) ∷ []) (decimal_in 19 (n / 10) ++ ((digit0 + n % 10) ∷ [])))
        (cond b ((digit0 + n) ∷ []) (decimal_in 19 (n / 10) ++ ((digit0 + n % 10) ∷ [])))) ≡ 2
    by_case true e = refl
    by_case false e =
        omega (arith, length-append (decimal_in 19 (n / 10)) ((digit0 + n % 10) ∷ []), one_digit_lem 18 (n / 10) (omega arith), ltb-false n 10 e)

one_more_digit : (f n : ℕ) → 10 ≤ n → length (decimal_in (suc f) n) ≡ suc (length (decimal_in f (n / 10)))
unfolding decimal_in
one_more_digit f n h = rw (le-ltb n 10 h) (omega (arith, length-append (decimal_in f (n / 10)) ((digit0 + n % 10) ∷ [])))

pub three_digits_lem : (n : ℕ) → n < 1000 → length (three_digits n) ≡ 3
unfolding three_digits
three_digits_lem n h = by_case (ltb n 100) refl
  where
    by_case : (b : Bool) → ltb n 100 ≡ b → length (cond b (digit0 ∷ two_digits n) (decimal_text n)) ≡ 3
    by_case true e = omega (arith, two_digits_lem n (ltb-true n 100 e))
    by_case false e =
        let k : 100 ≤ n = ltb-false n 100 e in
        omega (
          arith,
          one_more_digit 19 n (omega arith),
          one_more_digit 18 (n / 10) (omega arith),
          one_digit_lem 17 (n / 10 / 10) (omega arith),
        )

pub clock_eight_bytes : (n : ℕ) → n < 360000 → length (clock_text n) ≡ 8
unfolding clock_text
clock_eight_bytes n h =
    let s = two_digits (n % 60) in
    let m = two_digits (n / 60 % 60) in
    omega (
      arith,
      length-append (two_digits (n / 3600)) (colon ∷ (m ++ (colon ∷ s))),
      length-append m (colon ∷ s),
      two_digits_lem (n / 3600) (omega arith),
      two_digits_lem (n / 60 % 60) (omega arith),
      two_digits_lem (n % 60) (omega arith),
    )

pub time_eight_bytes : (x : Float) → Between zero one x → length (time_text x) ≡ 8
time_eight_bytes x day = clock_eight_bytes (seconds_of x) (let h = seconds_at_most x day in omega arith)

-- hours, minutes and seconds
pub clock_says_seconds : (n : ℕ) → n / 3600 * 3600 + n / 60 % 60 * 60 + n % 60 ≡ n
clock_says_seconds n = omega arith

-- the end of the day
pub end_of_day : time_text one ≡ ascii "24:00:00"
unfolding computed
end_of_day = refl
