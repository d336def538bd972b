-- Wrong variants are excluded: each differs from the rule at the input stated. The rules vary.
use Rattle.std.specs.Prelude.{refl, pos, ◌≢◌}
use Rattle.double.specs.laws.Apart.{apart}
use Rattle.text_number.specs.rules.Bytes.{ascii}
use Rattle.text_number.specs.notions.Code.{of_text}
use Rattle.text_date.specs.declared.Reason.TheVariants.{NoMinute}
use Rattle.text_date.specs.notions.Code.{of_moment}
use Rattle.text_day.specs.rules.Day.{day_rule}
use Rattle.text_day.specs.rules.Reason.{reason_text, complaint_text}
use Rattle.text_day.specs.notions.Computed.{computed}
use Rattle.text_day.specs.notions.Wrong.{j2000_at_midnight, dut1_on_j2000, words_of_another, word_left_out}

pub day_varies : day_rule (ascii "2451545.0") (pos 0) ≢ day_rule (ascii "2000-01-01") (pos 0)
unfolding computed
day_varies = apart of_moment refl

pub j2000_at_midnight_excluded : j2000_at_midnight (ascii "J2000") (pos 0) ≢ day_rule (ascii "J2000") (pos 0)
unfolding computed
j2000_at_midnight_excluded = apart of_moment refl

pub dut1_on_j2000_excluded : dut1_on_j2000 (ascii "J2000") (pos 900) ≢ day_rule (ascii "J2000") (pos 900)
unfolding computed
dut1_on_j2000_excluded = apart of_moment refl

pub words_of_another_excluded : words_of_another NoMinute ≢ reason_text NoMinute
unfolding computed
words_of_another_excluded = apart of_text refl

pub word_left_out_excluded : word_left_out (ascii "JD1") (ascii "x") NoMinute ≢ complaint_text (ascii "JD1") (ascii "x") NoMinute
unfolding computed
word_left_out_excluded = apart of_text refl
