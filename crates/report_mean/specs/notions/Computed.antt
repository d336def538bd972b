-- What a theorem opens that works rules out at stated inputs: the text of sights that are lent.
use Rattle.std.specs.Prelude.{ℕ}
use Rattle.text_headings.specs.notions.Computed as headings
use Rattle.report_day.specs.rules.Day.{open_text}
use Rattle.report_mean.specs.rules.Refused.{refusal_text, refused_text, first_refused}
use Rattle.report_mean.specs.rules.Text.{meant_text, none_agree_text, no_mean_text, agreed_text, sights_text, lent_text}

-- a name for the line below it, which is what counts
unfoldable pub computed : ℕ
unfolding headings.computed open_text refusal_text refused_text first_refused meant_text none_agree_text no_mean_text agreed_text sights_text lent_text
computed = 0
