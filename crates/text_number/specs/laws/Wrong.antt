-- Wrong variants are excluded: each differs from the rule at the input stated.
use Rattle.std.specs.Prelude.{refl, negsuc, ◌≢◌}
use Rattle.double.specs.laws.Apart.{apart}
use Rattle.text_number.specs.rules.Number.{decimal_text, integer_text}
use Rattle.text_number.specs.rules.Refused.{refused_text}
use Rattle.text_number.specs.notions.Code.{of_text}
use Rattle.text_number.specs.notions.Computed.{computed}
use Rattle.text_number.specs.notions.Wrong.{last_digit_lost, plus_for_minus, refusal_without_line_end}

pub last_digit_lost_excluded : last_digit_lost 12 ≢ decimal_text 12
unfolding computed
last_digit_lost_excluded = apart of_text refl

-- −1
pub plus_for_minus_excluded : plus_for_minus (negsuc 0) ≢ integer_text (negsuc 0)
unfolding computed
plus_for_minus_excluded = apart of_text refl

pub refusal_without_line_end_excluded : refusal_without_line_end 8 ≢ refused_text 8
unfolding computed
refusal_without_line_end_excluded = apart of_text refl
