-- Wrong variants are excluded: each differs from the rule at the text stated. The rules vary: reading everything as one number, or nothing,
-- does not meet them.
use Rattle.std.specs.Prelude.{refl, [], ◌≢◌}
use Rattle.double.specs.laws.Apart.{apart}
use Rattle.text_number.specs.rules.Bytes.{ascii}
use Rattle.text_whole.specs.rules.Unsigned.{unsigned_rule}
use Rattle.text_whole.specs.rules.Signed.{signed_rule}
use Rattle.text_whole.specs.notions.Code.{of_unsigned, of_signed}
use Rattle.text_whole.specs.notions.Computed.{computed}
use Rattle.text_whole.specs.notions.Wrong.{
  past_most_wrapped,
  empty_is_nought,
  letter_passed_over,
  rest_ignored,
  minus_ignored,
  two_signs,
  past_most_turned,
}

pub unsigned_varies : unsigned_rule (ascii "7") ≢ unsigned_rule (ascii "4294967295")
unfolding computed
unsigned_varies = apart of_unsigned refl

pub signed_varies : signed_rule (ascii "+7") ≢ signed_rule (ascii "-2147483648")
unfolding computed
signed_varies = apart of_signed refl

-- 2^32
pub past_most_wrapped_excluded : past_most_wrapped (ascii "4294967296") ≢ unsigned_rule (ascii "4294967296")
unfolding computed
past_most_wrapped_excluded = apart of_unsigned refl

pub empty_is_nought_excluded : empty_is_nought [] ≢ unsigned_rule []
unfolding computed
empty_is_nought_excluded = apart of_unsigned refl

pub letter_passed_over_excluded : letter_passed_over (ascii "1a2") ≢ unsigned_rule (ascii "1a2")
unfolding computed
letter_passed_over_excluded = apart of_unsigned refl

pub rest_ignored_excluded : rest_ignored (ascii "12a") ≢ unsigned_rule (ascii "12a")
unfolding computed
rest_ignored_excluded = apart of_unsigned refl

pub minus_ignored_excluded : minus_ignored (ascii "-1") ≢ signed_rule (ascii "-1")
unfolding computed
minus_ignored_excluded = apart of_signed refl

pub two_signs_excluded : two_signs (ascii "-+1") ≢ signed_rule (ascii "-+1")
unfolding computed
two_signs_excluded = apart of_signed refl

-- 2^31
pub past_most_turned_excluded : past_most_turned (ascii "2147483648") ≢ signed_rule (ascii "2147483648")
unfolding computed
past_most_turned_excluded = apart of_signed refl
