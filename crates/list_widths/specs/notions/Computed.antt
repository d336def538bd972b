-- What a theorem opens that works rules out at stated inputs: the moves, over the list.
use Rattle.std.specs.Prelude.{ℕ}
use Rattle.list.specs.notions.Computed as list
use Rattle.list_widths.specs.rules.Narrow.{narrow_at, narrow_bytes, is_still, is_narrow, narrow_count, narrow_stars}
use Rattle.list_widths.specs.rules.Widths.{to_wide, to_narrow}

-- a name for the line below it, which is what counts
unfoldable pub computed : ℕ
unfolding list.computed narrow_at narrow_bytes is_still is_narrow narrow_count narrow_stars to_wide to_narrow
computed = 0
