-- What a theorem opens that works rules out at stated inputs: the record, the list, reader, writer and find.
use Rattle.std.specs.Prelude.{ℕ}
use Rattle.list.specs.rules.Record.{word_at, star_at, in_range, word_bytes, star_bytes}
use Rattle.list.specs.rules.Stars.{is_list, count_of, stars}
use Rattle.list.specs.rules.Reader.{is_offset, empty_before, read_rule}
use Rattle.list.specs.rules.Writer.{is_start, record_text}
use Rattle.list.specs.rules.Find.{index_of}

-- a name for the line below it, which is what counts
unfoldable pub computed : ℕ
unfolding word_at star_at in_range word_bytes star_bytes is_list count_of stars is_offset empty_before read_rule is_start record_text index_of
computed = 0
