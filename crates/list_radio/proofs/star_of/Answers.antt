-- `list_radio::star_of` meets its contract: the numbers unfolded, and the range after them.
use mathlib.Core.Path.{sym, ◌∙◌}
use mir.Syntax.{w32}
use mir.Facts.{to_z-of_z}
use Rattle.list_radio.proofs.Reading.{star_here, star_out}
use Rattle.list_radio.proofs.star_of.Goals as goal

pub returns-then-in_range : goal.returns-then-in_range
returns-then-in_range c =
    let v = c.unfold-3 in
    let u = c.unfold-2 in
    let d = c.unfold in
    star_here _ _ _ _ _ _ _ _ _
    (to_z-of_z {w = w32} (record { sfits = d.type_inv }) ∙ d.ensures)
    (to_z-of_z {w = w32} (record { sfits = u.type_inv }) ∙ u.ensures)
    (to_z-of_z {w = w32} (record { sfits = v.type_inv }) ∙ v.ensures)
    (sym c.in_range.ensures ∙ c.if-in_range.true)

pub returns-else-in_range : goal.returns-else-in_range
returns-else-in_range c =
    let v = c.unfold-3 in
    let u = c.unfold-2 in
    let d = c.unfold in
    star_out _ _ _ _ _ _ _ _ _
    (to_z-of_z {w = w32} (record { sfits = d.type_inv }) ∙ d.ensures)
    (to_z-of_z {w = w32} (record { sfits = u.type_inv }) ∙ u.ensures)
    (to_z-of_z {w = w32} (record { sfits = v.type_inv }) ∙ v.ensures)
    (sym c.in_range.ensures ∙ c.if-in_range.false)
