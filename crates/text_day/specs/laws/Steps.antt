-- The rules as the code goes.
use Rattle.std.specs.Prelude.{ℕ, ◌≡◌, true, false, List, ℤ, Float, Option, Some, None}
use Rattle.text_number.specs.rules.Bytes.{ascii}
use Rattle.text_decimal.specs.rules.Decimal.{shown_decimal, decimal_rule}
use Rattle.text_word.specs.rules.Word.{is_word}
use Rattle.text_date.specs.rules.Date.{is}
use Rattle.text_date.specs.rules.Moment.{moment_rule}
use Rattle.text_day.specs.rules.Day.{j2000, named_day, day_rule}

module _ (text : List ℕ) (dut1 : ℤ) where
  pub is_j2000 : is_word text (ascii "J2000") ≡ true → is j2000 ≡ named_day text dut1
  unfolding named_day
  is_j2000 e = rw e

  pub is_dated : is_word text (ascii "J2000") ≡ false → moment_rule text dut1 ≡ named_day text dut1
  unfolding named_day
  is_dated e = rw e

  pub is_decimal : (r : Option Float) (x : Float) → shown_decimal r ≡ decimal_rule text → r ≡ Some x → is x ≡ day_rule text dut1
  unfolding day_rule
  is_decimal r x p e = rw (← p, e)

  pub is_named : (r : Option Float) → shown_decimal r ≡ decimal_rule text → r ≡ None → named_day text dut1 ≡ day_rule text dut1
  unfolding day_rule
  is_named r p e = rw (← p, e)
