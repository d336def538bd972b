-- `list_widths::list_12_to_20` meets its contract: nothing is written before the whole list is known to be good, and to have room.
use mathlib.Core.Path.{◌≡◌, refl, sym, ◌∙◌}
use mathlib.Core.Bool.{true}
use native.Mathlib.Omega.{arith}
use Rattle.lent.specs.laws.Put.{put_refused, no_room, puts}
use Rattle.lent.specs.laws.Writing.{same}
use Rattle.list.specs.rules.Stars.{all_in_range}
use Rattle.list_widths.specs.rules.Narrow.{is_narrow, narrow_stars}
use Rattle.list_widths.specs.laws.Narrow.{narrow_few}
use Rattle.list_widths.specs.laws.Widths.{no_narrow_list, narrow_out_of_range, moves_up, records_up, length_up}
use Rattle.list_widths.proofs.list_12_to_20.Goals as goal

pub returns-then-not-is_narrow : goal.returns-then-not-is_narrow
returns-then-not-is_narrow c = put_refused _ _ _ _ (no_narrow_list _ (sym c.is_narrow.ensures ∙ c.if-not-is_narrow.true))

pub returns-then-not-narrow_in_range : goal.returns-then-not-narrow_in_range
returns-then-not-narrow_in_range c =
    let list : is_narrow c.args.bytes.now ≡ true = sym c.is_narrow.ensures ∙ c.if-not-is_narrow.false in
    put_refused _ _ _ _ (narrow_out_of_range _ list (sym c.narrow_in_range.ensures ∙ c.if-not-narrow_in_range.true))

pub overflow_mul-n : goal.overflow_mul-n
overflow_mul-n c =
    let list : is_narrow c.args.bytes.now ≡ true = sym c.is_narrow.ensures ∙ c.if-not-is_narrow.false in
    omega (arith, c.narrow_count-n.ensures, narrow_few _ list)

pub returns-then-out-n : goal.returns-then-out-n
returns-then-out-n c =
    let list : is_narrow c.args.bytes.now ≡ true = sym c.is_narrow.ensures ∙ c.if-not-is_narrow.false in
    let range : all_in_range (narrow_stars c.args.bytes.now) ≡ true = sym c.narrow_in_range.ensures ∙ c.if-not-narrow_in_range.false in
    no_room _ _ _ _ (moves_up _ list range)
    (omega (arith, length_up _ _ c.narrow_count-n.ensures, c.if-out-n.true))

pub returns : goal.returns
returns c =
    let list : is_narrow c.args.bytes.now ≡ true = sym c.is_narrow.ensures ∙ c.if-not-is_narrow.false in
    let range : all_in_range (narrow_stars c.args.bytes.now) ≡ true = sym c.narrow_in_range.ensures ∙ c.if-not-narrow_in_range.false in
    puts _ _ _ _ (moves_up _ list range) _ _
    (omega (arith, length_up _ _ c.narrow_count-n.ensures, c.if-out-n.false))
    (same (records_up _ _ refl) c.write_up.ensures)
