-- Wrong variants of a command's word for a day.
use Rattle.std.specs.Prelude.{ℕ, cond, List, [], ℤ, Float}
use Rattle.double.specs.rules.Operations.{bits}
use Rattle.text_number.specs.rules.Bytes.{ascii}
use Rattle.text_word.specs.rules.Word.{is_word}
use Rattle.text_date.specs.declared.Reason.{Reason}
use Rattle.text_date.specs.declared.Reason.TheVariants.{NoSecond}
use Rattle.text_date.specs.rules.Date.{Reading, is}
use Rattle.text_date.specs.rules.Moment.{moment_rule}
use Rattle.text_day.specs.rules.Day.{day_rule}
use Rattle.text_day.specs.rules.Reason.{reason_text, complaint_text}

-- J2000 at 0h, 2451544.5
abbrev pub j2000_at_midnight : List ℕ → ℤ → Reading Float
j2000_at_midnight text dut1 = cond (is_word text (ascii "J2000")) (is (bits 0x4142b42c40000000)) (day_rule text dut1)

-- UT1 − UTC added to J2000 as to a date
abbrev pub dut1_on_j2000 : List ℕ → ℤ → Reading Float
dut1_on_j2000 text dut1 = cond (is_word text (ascii "J2000")) (moment_rule (ascii "2000-01-01T12:00:00Z") dut1) (day_rule text dut1)

-- the second blamed for everything
abbrev pub words_of_another : Reason → List ℕ
words_of_another k = reason_text NoSecond

-- which argument, and not what it was
abbrev pub word_left_out : List ℕ → List ℕ → Reason → List ℕ
word_left_out name word k = complaint_text name [] k
