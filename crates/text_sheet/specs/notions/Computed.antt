-- What a theorem opens that works rules out at stated inputs: the sheet, over the list and numbers as text.
use Rattle.std.specs.Prelude.{ℕ}
use Rattle.list.specs.notions.Computed as list
use Rattle.text_number.specs.notions.Computed as text
use Rattle.text_sheet.specs.rules.Sheet.{place_text, rates_text, line, heading, footing, sheet_in, sheet_of}

-- a name for the line below it, which is what counts
unfoldable pub computed : ℕ
unfolding list.computed text.computed place_text rates_text line heading footing sheet_in sheet_of
computed = 0
