-- What a theorem opens that works rules out at stated inputs: the arguments of aberration, and a row of its table.
use Rattle.std.specs.Prelude.{ℕ}
use Rattle.elementary.specs.notions.Computed as elementary
use Rattle.aberr_args.specs.rules.Arguments.{arguments_of}
use Rattle.aberr_args.specs.rules.Row.{angle_of, times, plus, argument_of, grouped, term, with_term, moved, spread, share_of, added, with_row}

-- names for the line below each, which is what counts

-- a row as it is written, its operations shut
unfoldable pub written : ℕ
unfolding angle_of times plus argument_of grouped term with_term moved spread share_of added with_row
written = 0

unfoldable pub computed : ℕ
unfolding elementary.computed arguments_of written
computed = 0
