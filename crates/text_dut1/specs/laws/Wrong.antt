-- Wrong variants are excluded: each differs from the rule at the text stated. The rule varies.
use Rattle.std.specs.Prelude.{refl, [], ◌≢◌}
use Rattle.double.specs.laws.Apart.{apart}
use Rattle.text_number.specs.rules.Bytes.{ascii}
use Rattle.text_dut1.specs.rules.Dut1.{dut1_rule}
use Rattle.text_dut1.specs.notions.Code.{of_reading}
use Rattle.text_dut1.specs.notions.Computed.{computed}
use Rattle.text_dut1.specs.notions.Wrong.{minus_ignored, point_ignored, fourth_digit_cut, past_most_taken, empty_is_nought}

pub dut1_varies : dut1_rule (ascii "-.1") ≢ dut1_rule (ascii "+0.9")
unfolding computed
dut1_varies = apart of_reading refl

pub minus_ignored_excluded : minus_ignored (ascii "-0.2") ≢ dut1_rule (ascii "-0.2")
unfolding computed
minus_ignored_excluded = apart of_reading refl

pub point_ignored_excluded : point_ignored (ascii "0.2") ≢ dut1_rule (ascii "0.2")
unfolding computed
point_ignored_excluded = apart of_reading refl

pub fourth_digit_cut_excluded : fourth_digit_cut (ascii "0.1234") ≢ dut1_rule (ascii "0.1234")
unfolding computed
fourth_digit_cut_excluded = apart of_reading refl

pub past_most_taken_excluded : past_most_taken (ascii "1") ≢ dut1_rule (ascii "1")
unfolding computed
past_most_taken_excluded = apart of_reading refl

pub empty_is_nought_excluded : empty_is_nought [] ≢ dut1_rule []
unfolding computed
empty_is_nought_excluded = apart of_reading refl
