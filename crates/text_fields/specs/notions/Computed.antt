-- What a theorem opens that works rules out at stated texts: fields, lines, and the walk along them.
use Rattle.std.specs.Prelude.{ℕ}
use Rattle.text_fields.specs.rules.Fields.{is_blank, is_stop, before, since, is_bare, field_of, after_field}
use Rattle.text_fields.specs.rules.Lines.{lines}
use Rattle.text_fields.specs.rules.Next.{next_said, next_of}
use Rattle.text_fields.specs.rules.Walk.{told_of, entries_from, ending_from}

-- a name for the line below it, which is what counts
unfoldable pub computed : ℕ
unfolding is_blank is_stop before since is_bare field_of after_field lines next_said next_of told_of entries_from ending_from
computed = 0
