-- What a theorem opens that works rules out at stated inputs: which report a text of sights leads to.
use Rattle.std.specs.Prelude.{ℕ}
use Rattle.text_fields.specs.rules.Stored.{stored_rule}
use Rattle.text_night.specs.notions.Computed as night
use Rattle.report_night.specs.rules.Report.{report_of}

-- a name for the line below it, which is what counts
unfoldable pub computed : ℕ
unfolding night.computed stored_rule report_of
computed = 0
