-- Wrong variants are excluded: each differs from the rule at the text stated. The rule varies.
use Rattle.std.specs.Prelude.{refl, pos, ◌≢◌}
use Rattle.double.specs.laws.Apart.{apart}
use Rattle.text_number.specs.rules.Bytes.{ascii}
use Rattle.text_date.specs.rules.Time.{clock_in, time_rule}
use Rattle.text_date.specs.rules.Moment.{moment_rule}
use Rattle.text_date.specs.notions.Code.{of_time, of_moment}
use Rattle.text_date.specs.notions.Computed.{computed}
use Rattle.text_date.specs.notions.Wrong.{local_taken, hour24, second60, seconds_for_minutes}

pub local_taken_excluded : local_taken (ascii "2028-11-13T04:33:36") ≢ time_rule (ascii "2028-11-13T04:33:36")
unfolding computed
local_taken_excluded = apart of_time refl

pub hour_24_excluded : hour24 (ascii "2028-11-13T24:00:00Z") 2462089 ≢ clock_in (ascii "2028-11-13T24:00:00Z") 2462089
unfolding computed
hour_24_excluded = apart of_time refl

pub second_60_excluded : second60 (ascii "2028-11-13T04:33:60Z") 2462089 ≢ clock_in (ascii "2028-11-13T04:33:60Z") 2462089
unfolding computed
second_60_excluded = apart of_time refl

pub seconds_for_minutes_excluded : seconds_for_minutes (ascii "2028-11-13T04:33:36Z") 2462089 ≢ clock_in (ascii "2028-11-13T04:33:36Z") 2462089
unfolding computed
seconds_for_minutes_excluded = apart of_time refl

pub moment_varies : moment_rule (ascii "2028-11-13") (pos 0) ≢ moment_rule (ascii "2028-11-13") (pos 1)
unfolding computed
moment_varies = apart of_moment refl
