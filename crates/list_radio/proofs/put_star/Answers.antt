-- `list_radio::put_star` meets its contract.
use borrow.Author.Tests.{not-true, not-false}
use mathlib.Core.Path.{sym, ◌∙◌}
use Rattle.lent.specs.laws.Put.{put_refused, tested_no_room, tested_puts}
use Rattle.list_radio.specs.laws.Put.{star_text_lem, no_star_text}
use Rattle.list_radio.proofs.put_star.Goals as goal

pub returns-then-not-in_range : goal.returns-then-not-in_range
returns-then-not-in_range c = put_refused _ _ _ _ (no_star_text _ (sym c.in_range.ensures ∙ c.if-not-in_range.true))

pub returns-then-not-has_room : goal.returns-then-not-has_room
returns-then-not-has_room c =
    tested_no_room _ _ _ _ (star_text_lem _ (sym c.in_range.ensures ∙ c.if-not-in_range.false)) _ c.star_size.ensures _ c.has_room.ensures (c.if-not-has_room.true)

pub returns : goal.returns
returns c =
    tested_puts _ _ _ _ (star_text_lem _ (sym c.in_range.ensures ∙ c.if-not-in_range.false)) _ c.star_size.ensures _ c.has_room.ensures (c.if-not-has_room.false) _ _
    c.write_star.ensures
