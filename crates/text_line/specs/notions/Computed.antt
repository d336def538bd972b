-- What a theorem opens that works rules out at stated inputs: a star's line, over numbers as text and units.
use Rattle.std.specs.Prelude.{ℕ}
use Rattle.units.specs.notions.Computed as units
use Rattle.text_number.specs.notions.Computed as text
use Rattle.text_line.specs.rules.Angle.{angle_text}
use Rattle.text_line.specs.rules.Line.{angle_then, bits_then, angles_text, line_of}

-- a name for the line below it, which is what counts
unfoldable pub computed : ℕ
unfolding units.computed text.computed angle_text angle_then bits_then angles_text line_of
computed = 0
