-- Wrong variants of the reading of a day.
use Rattle.std.specs.Prelude.{ℕ, suc, ◌+◌, ◌-◌, ◌*◌, true, false, cond, List, [], ◌∷◌, ◌==◌, nat_le, Float}
use Rattle.std.specs.Float.Ieee.{lt}
use Rattle.text_number.specs.rules.Bytes.{point, digit0}
use Rattle.text_decimal.specs.declared.Scan.{Scan}
use Rattle.text_decimal.specs.rules.Decimal.{most, widest, start, unclear, next_scale, with_digit, with_point, Reading, decimal_from}

-- the day of a text that is digits and points, each taken in another way
abbrev read_by : (Scan → ℕ → Scan) → (Scan → Scan) → Scan → List ℕ → Reading
read_by onDigit onPoint scan [] = decimal_from scan
read_by onDigit onPoint scan (b ∷ text) =
    read_by onDigit onPoint (cond (b == point) (onPoint scan) (onDigit scan (b - digit0))) text

-- one digit more, with another whole number at most and another scale
abbrev digit_in : ℕ → (Scan → Float) → Scan → ℕ → Scan
digit_in limit scale scan d =
    cond (nat_le (scan.whole * 10 + d) limit)
    (cond (lt widest (scale scan))
    unclear
    (record {
      whole = scan.whole * 10 + d;
      scale = scale scan;
      point = scan.point;
      some = true;
      clear = scan.clear;
    }))
    unclear

-- 2^53 + 1 taken, which is rounded before it is divided
abbrev pub more_digits_rounded_twice : List ℕ → Reading
more_digits_rounded_twice = read_by (digit_in (suc most) next_scale) with_point start

-- a digit past it has the worth of the one before
abbrev pub point_ignored : List ℕ → Reading
point_ignored = read_by (digit_in most (λ (scan : Scan). scan.scale)) with_point start

-- a point is forgotten
abbrev pub two_points : List ℕ → Reading
two_points =
    read_by with_digit
    (λ (scan : Scan).
    cond scan.point unclear
    (record { whole = scan.whole; scale = scan.scale; point = false; some = scan.some; clear = scan.clear }))
    start
