-- What a theorem opens that works rules out at stated inputs: the text of a list without stars and of a refused one, in each style.
use Rattle.std.specs.Prelude.{ℕ}
use Rattle.transit.specs.notions.Computed as transit
use Rattle.list.specs.notions.Computed as list
use Rattle.text_number.specs.notions.Computed as text
use Rattle.text_refusal.specs.notions.Computed as refusal
use Rattle.precess_angles.specs.rules.Days.{days_refusal}
use Rattle.star_store.specs.rules.Stored.{store_refusal}
use Rattle.text_answers.specs.rules.Answers.{edition_text}
use Rattle.report.specs.rules.Report.{report_of}

-- a name for the line below it, which is what counts
unfoldable pub computed : ℕ
unfolding transit.computed list.computed text.computed refusal.computed days_refusal store_refusal edition_text report_of
computed = 0
