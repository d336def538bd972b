-- Wrong variants are excluded: each differs from the rule at the text stated.
use Rattle.std.specs.Prelude.{ℕ, List, refl, ◌≢◌}
use Rattle.double.specs.laws.Apart.{apart}
use Rattle.text_number.specs.rules.Bytes.{ascii}
use Rattle.text_decimal.specs.rules.Decimal.{decimal_rule}
use Rattle.text_decimal.specs.notions.Code.{of_reading}
use Rattle.text_decimal.specs.notions.Computed.{computed}
use Rattle.text_decimal.specs.notions.Wrong.{more_digits_rounded_twice, point_ignored, two_points}

-- 2^53 + 1
abbrev past_most : List ℕ
past_most = ascii "9007199254740993"

abbrev one_point : List ℕ
one_point = ascii "1.5"

abbrev double_point : List ℕ
double_point = ascii "1..5"

pub more_digits_rounded_twice_excluded : more_digits_rounded_twice past_most ≢ decimal_rule past_most
unfolding computed
more_digits_rounded_twice_excluded = apart of_reading refl

pub point_ignored_excluded : point_ignored one_point ≢ decimal_rule one_point
unfolding computed
point_ignored_excluded = apart of_reading refl

pub two_points_excluded : two_points double_point ≢ decimal_rule double_point
unfolding computed
two_points_excluded = apart of_reading refl
