-- A day in decimal is read as it ever was, whatever UT1 − UTC is; a word with a date's first hyphen is a date and nothing else.
use Rattle.std.specs.Prelude.{ℕ, zero, suc, ◌+◌, ◌*◌, ◌-◌, ◌≡◌, refl, Bool, true, false, cond, List, [], ◌∷◌, eqb, leb, ℤ, Float, get_or, ◌≢◌}
use Rattle.std.proofs.Common.{arith}
use Rattle.std.specs.Float.Ieee.{lt}
use Rattle.text_number.specs.rules.Bytes.{ascii, minus_sign, point, digit0, digit9}
use Rattle.text_decimal.specs.declared.Scan.{Scan}
use Rattle.text_decimal.specs.rules.Decimal as decimal
use Rattle.text_decimal.specs.rules.Decimal.{most, widest, start, unclear, next_scale, with_digit, with_point, with_byte, scanned, decimal_from, decimal_rule}
use Rattle.text_word.specs.laws.Word.{other_byte}
use Rattle.text_date.specs.rules.Date.{is}
use Rattle.text_date.specs.rules.Moment.{moment_rule}
use Rattle.text_date.specs.notions.Written.{date_text}
use Rattle.text_day.specs.rules.Day.{j2000, named_day, day_rule}
use Rattle.text_day.specs.notions.Computed.{computed}

module _ (text : List ℕ) (dut1 : ℤ) where
  pub decimal_stays : (x : Float) → decimal_rule text ≡ decimal.is x → day_rule text dut1 ≡ is x
  unfolding day_rule
  decimal_stays x e = rw e

pub j2000_is_noon : (dut1 : ℤ) → day_rule (ascii "J2000") dut1 ≡ is j2000
unfolding computed
j2000_is_noon dut1 = refl

-- ---- a word that is no number

digit_stays : (scan : Scan) (d : ℕ) → scan.clear ≡ false → (with_digit scan d).clear ≡ false
unfolding with_digit
digit_stays scan d e = go (leb (scan.whole * 10 + d) most) (lt widest (next_scale scan))
  where
    go : (x y : Bool)
        → (cond x
        (cond y
        unclear
        (record { whole = scan.whole * 10 + d; scale = next_scale scan; point = scan.point; some = true; clear = scan.clear }))
        unclear).clear
        ≡ false
    go true true = refl
    go true false = e
    go false y = refl

point_stays : (scan : Scan) → scan.clear ≡ false → (with_point scan).clear ≡ false
unfolding with_point
point_stays scan e = go scan.point
  where
    go : (x : Bool)
        → (cond x unclear (record { whole = scan.whole; scale = scan.scale; point = true; some = scan.some; clear = scan.clear })).clear ≡ false
    go true = refl
    go false = e

byte_stays : (scan : Scan) (b : ℕ) → scan.clear ≡ false → (with_byte scan b).clear ≡ false
unfolding with_byte
byte_stays scan b e = go (eqb b point) (leb digit0 b) (leb b digit9)
  where
    go : (x y z : Bool) → (cond x (with_point scan) (cond y (cond z (with_digit scan (b - digit0)) unclear) unclear)).clear ≡ false
    go true y z = point_stays scan e
    go false true true = digit_stays scan (b - digit0) e
    go false true false = refl
    go false false z = refl

unclear_stays : (text : List ℕ) (scan : Scan) → scan.clear ≡ false → (scanned scan text).clear ≡ false
unfolding scanned
unclear_stays [] scan e = e
unclear_stays (b ∷ text) scan e = unclear_stays text (with_byte scan b) (byte_stays scan b e)

hyphen : (scan : Scan) (b : ℕ) → b ≡ minus_sign → (with_byte scan b).clear ≡ false
unfolding with_byte
hyphen scan b e = rw e

hyphen_spoils : (text : List ℕ) (i : ℕ) (scan : Scan) → get_or text i 0 ≡ minus_sign → (scanned scan text).clear ≡ false
unfolding scanned
hyphen_spoils [] i scan e = absurd (omega arith)
hyphen_spoils (b ∷ text) zero scan e = unclear_stays text (with_byte scan b) (hyphen scan b e)
hyphen_spoils (b ∷ text) (suc i) scan e = hyphen_spoils text i (with_byte scan b) e

pub no_decimal : (text : List ℕ) (i : ℕ) → get_or text i 0 ≡ minus_sign → decimal_rule text ≡ decimal.none
unfolding decimal_rule decimal_from
no_decimal text i e = rw (hyphen_spoils text i start e)

pub hyphen_is_a_date : (text : List ℕ) (dut1 : ℤ) → get_or text 4 0 ≡ minus_sign → day_rule text dut1 ≡ moment_rule text dut1
unfolding day_rule named_day
hyphen_is_a_date text dut1 e =
    let apart : get_or text 4 0 ≢ get_or (ascii "J2000") 4 0 = λ z. omega (arith, e, z) in
    rw (no_decimal text 4 e, other_byte text (ascii "J2000") 4 apart)

-- every date that is written in digits, with anything behind it
pub date_is_a_date : (y m d : ℕ) (rest : List ℕ) (dut1 : ℤ) → day_rule (date_text y m d rest) dut1 ≡ moment_rule (date_text y m d rest) dut1
date_is_a_date y m d rest dut1 = hyphen_is_a_date (date_text y m d rest) dut1 refl
