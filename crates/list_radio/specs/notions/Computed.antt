-- What a theorem opens that works rules out at stated inputs: the radio list, over numbers in groups and the range of a star.
use Rattle.std.specs.Prelude.{ℕ}
use Rattle.lent.specs.rules.Put.{room_for}
use Rattle.list.specs.notions.Computed as list
use Rattle.list_groups.specs.rules.Groups.{groups}
use Rattle.list_groups.specs.rules.Reading.{read_number, read_at}
use Rattle.list_groups.specs.rules.Several.{read_all}
use Rattle.list_groups.specs.rules.Fold.{folded, unfolded}
use Rattle.list_radio.specs.rules.Star.{star_groups, read_star}
use Rattle.list_radio.specs.rules.Radio.{head_bytes, radio_bytes, mark_refusal, is_moving, read_count, stars_of, radio_stars}
use Rattle.list_radio.specs.rules.Reader.{open_rule, star_at_rule, accept_rule}
use Rattle.list_radio.specs.rules.Put.{head_text, star_text}

-- a name for the line below it, which is what counts
unfoldable pub computed : ℕ
unfolding list.computed groups read_number read_at read_all folded unfolded star_groups read_star head_bytes radio_bytes mark_refusal is_moving read_count stars_of radio_stars open_rule star_at_rule accept_rule room_for head_text star_text
computed = 0
