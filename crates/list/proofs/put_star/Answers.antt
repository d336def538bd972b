-- `list::put_star` meets its contract: each test that leads to a return says which text there is, and whether it has room.
use mathlib.Core.Path.{sym, ◌∙◌}
use Rattle.lent.specs.laws.Put.{put_refused, tested_no_room, tested_puts}
use Rattle.list.specs.laws.Record.{length_star}
use Rattle.list.specs.laws.Writer.{out_of_range_first, no_start_next, record_text_lem}
use Rattle.list.proofs.put_star.Goals as goal

pub returns-then-not-in_range : goal.returns-then-not-in_range
returns-then-not-in_range c = put_refused _ _ _ _ (out_of_range_first _ _ (sym c.in_range.ensures ∙ c.if-not-in_range.true))

pub returns-then-not-is_start : goal.returns-then-not-is_start
returns-then-not-is_start c =
    put_refused _ _ _ _
    (no_start_next _ _ (sym c.in_range.ensures ∙ c.if-not-in_range.false) (sym c.is_start.ensures ∙ c.if-not-is_start.true))

pub returns-then-not-has_room : goal.returns-then-not-has_room
returns-then-not-has_room c =
    tested_no_room _ _ _ _ (record_text_lem _ _ (sym c.in_range.ensures ∙ c.if-not-in_range.false) (sym c.is_start.ensures ∙ c.if-not-is_start.false)) _ (sym (length_star _)) _ c.has_room.ensures (c.if-not-has_room.true)

pub returns : goal.returns
returns c =
    tested_puts _ _ _ _ (record_text_lem _ _ (sym c.in_range.ensures ∙ c.if-not-in_range.false) (sym c.is_start.ensures ∙ c.if-not-is_start.false)) _ (sym (length_star _)) _ c.has_room.ensures (c.if-not-has_room.false) _ _
    c.write_star.ensures
