-- Away from zero, and the tests by which a cosine is so. A cosine can be zero only where the rest of its fold is, after an odd number n
-- of quarters: where an angle less n·P1, which is a double, is n·P2 + n·P3. That is no double: one stands on either side of it, and none
-- between them.
use Rattle.std.specs.Prelude.{ℕ, zero, suc, ◌-◌, ◌*◌, ◌/◌, ◌^◌, Bool, true, ◌&&◌, cond, ◌⊎◌, leb, Float}
use Rattle.std.specs.Float.{binary64}
use Rattle.std.specs.Float.Ieee.{neg}
use Rattle.double.specs.rules.Operations.{two, ◌⊗◌}
use Rattle.double.specs.rules.Operations as operations
use Rattle.double.specs.rules.Sign.{is_finite}
use Rattle.double.specs.rules.Order.{Between}
use Rattle.double.specs.rules.Whole.{from_whole}
use Rattle.double.specs.rules.Table.{over, minus_over}
use Rattle.double.specs.notions.Range.{Range, ◌to◌, span, sub_range, inside}
use Rattle.double.specs.notions.Grid.{grid}
use Rattle.elementary.specs.rules.Fold.{P1, P2, P3}

-- 2^−100
abbrev pub away : Float
away = over 1 (2 ^ 100)

abbrev pub Away : Float → Type 0
Away x = Between (neg two) (neg away) x ⊎ Between away two x

-- the double after HALF, from which on a cosine bears a minus sign
abbrev pub past_half : Float
past_half = operations.bits 0x3ff921fb54442d19

-- ---- the doubles on either side: point_at n and the next over 2^(step_at n + 1), of 53 digits

-- P2 + P3 is this over 2^121
abbrev rest_of_quarter : ℕ
rest_of_quarter = 161557042528934469910622323

abbrev pub step_at : ℕ → ℕ
step_at n = cond (leb n 1) 85 (cond (leb n 3) 84 (cond (leb n 7) 83 (cond (leb n 15) 82 (cond (leb n 30) 81 80))))

abbrev pub point_at : ℕ → ℕ
point_at n = n * rest_of_quarter / 2 ^ (120 - step_at n)

abbrev pub last_below : ℕ → Float
last_below n = grid binary64 (step_at n) (point_at n)

abbrev pub first_above : ℕ → Float
first_above n = grid binary64 (step_at n) (suc (point_at n))

-- ---- the tests, of angles up to 80.0: less n·P1, and less n·P2 and n·P3 from either side

abbrev less_p1 : ℕ → Range
less_p1 n = let y = from_whole n ⊗ P1 in sub_range binary64 (operations.zero to over 80 1) (span y y)

abbrev less_rest : ℕ → Range → Range
less_rest n i =
    let y = from_whole n ⊗ P2 in
    let z = from_whole n ⊗ P3 in
    sub_range binary64 (sub_range binary64 i (span y y)) (span z z)

abbrev pub full_length : ℕ → Bool
full_length n = leb (2 ^ 52) (point_at n) && (is_finite (last_below n) && is_finite (first_above n))

abbrev pub within_reach : ℕ → Bool
within_reach n = inside (minus_over 128 1) (over 128 1) (less_p1 n)

abbrev pub stays_below : ℕ → Bool
stays_below n = inside (minus_over 256 1) (neg away) (less_rest n (minus_over 128 1 to last_below n))

abbrev pub stays_above : ℕ → Bool
stays_above n = inside away (over 256 1) (less_rest n (first_above n to over 128 1))

abbrev pub sides_apart : ℕ → Bool
sides_apart n = full_length n && (within_reach n && (stays_below n && stays_above n))

-- asked of an odd n, where q is n mod 4
abbrev pub keeps_away : ℕ → ℕ → Bool
keeps_away n zero = true
keeps_away n (suc zero) = sides_apart n
keeps_away n (suc (suc zero)) = true
keeps_away n (suc (suc (suc q))) = sides_apart n

abbrev pub all_below : ℕ → (ℕ → Bool) → Bool
all_below zero test = true
all_below (suc n) test = test n && all_below n test
