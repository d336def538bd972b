-- What a theorem opens that works rules out at stated inputs: the parts of a sight's text, over numbers as text, units and refusals in words.
use Rattle.std.specs.Prelude.{ℕ}
use Rattle.units.specs.notions.Computed as units
use Rattle.text_time.specs.notions.Computed as time
use Rattle.text_refusal.specs.notions.Computed as refusal
use Rattle.text_heading.specs.rules.Angle.{tenths_of, circle_tenths, arc_text, pad_text, column_text, angle_text, circle_text, mark_text}
use Rattle.text_heading.specs.rules.Place.{parts_text, coordinate_text, place_text}
use Rattle.text_heading.specs.rules.Edition.{edition_text}
use Rattle.text_heading.specs.rules.Altitude.{seen_at, remark_text, altitude_text}
use Rattle.text_heading.specs.rules.Refusal.{sight_words, mark_words, sight_refusal_text, mark_refusal_text}

-- a name for the line below it, which is what counts
unfoldable pub computed : ℕ
unfolding units.computed time.computed refusal.computed
    tenths_of circle_tenths arc_text pad_text column_text angle_text circle_text mark_text parts_text coordinate_text place_text edition_text
    seen_at remark_text altitude_text sight_words mark_words sight_refusal_text mark_refusal_text
computed = 0
