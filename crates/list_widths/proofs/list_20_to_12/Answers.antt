-- `list_widths::list_20_to_12` meets its contract: nothing is written before the whole list is known to be good, and to have room.
use mathlib.Core.Path.{◌≡◌, refl, sym, ◌∙◌}
use mathlib.Core.Bool.{true}
use native.Mathlib.Omega.{arith}
use Rattle.lent.specs.laws.Put.{put_refused, no_room, puts}
use Rattle.lent.specs.laws.Writing.{same}
use Rattle.list.specs.rules.Stars.{is_list, stars, all_are, all_in_range}
use Rattle.list.specs.laws.Stars.{few}
use Rattle.list_widths.specs.rules.Narrow.{is_still}
use Rattle.list_widths.specs.laws.Widths.{no_list, out_of_range, moving, moves_down, records_down, length_down}
use Rattle.list_widths.proofs.list_20_to_12.Goals as goal

pub returns-then-not-is_list : goal.returns-then-not-is_list
returns-then-not-is_list c = put_refused _ _ _ _ (no_list _ (sym c.is_list.ensures ∙ c.if-not-is_list.true))

pub returns-then-not-all_in_range : goal.returns-then-not-all_in_range
returns-then-not-all_in_range c =
    let list : is_list c.args.bytes.now ≡ true = sym c.is_list.ensures ∙ c.if-not-is_list.false in
    put_refused _ _ _ _ (out_of_range _ list (sym c.all_in_range.ensures ∙ c.if-not-all_in_range.true))

pub returns-then-not-all_still : goal.returns-then-not-all_still
returns-then-not-all_still c =
    let list : is_list c.args.bytes.now ≡ true = sym c.is_list.ensures ∙ c.if-not-is_list.false in
    let range : all_in_range (stars c.args.bytes.now) ≡ true = sym c.all_in_range.ensures ∙ c.if-not-all_in_range.false in
    put_refused _ _ _ _ (moving _ list range (sym c.all_still.ensures ∙ c.if-not-all_still.true))

pub overflow_mul-n : goal.overflow_mul-n
overflow_mul-n c =
    let list : is_list c.args.bytes.now ≡ true = sym c.is_list.ensures ∙ c.if-not-is_list.false in
    omega (arith, c.count-n.ensures, few _ list)

pub returns-then-out-n : goal.returns-then-out-n
returns-then-out-n c =
    let list : is_list c.args.bytes.now ≡ true = sym c.is_list.ensures ∙ c.if-not-is_list.false in
    let range : all_in_range (stars c.args.bytes.now) ≡ true = sym c.all_in_range.ensures ∙ c.if-not-all_in_range.false in
    let stand : all_are is_still (stars c.args.bytes.now) ≡ true = sym c.all_still.ensures ∙ c.if-not-all_still.false in
    no_room _ _ _ _ (moves_down _ list range stand)
    (omega (arith, length_down _ _ c.count-n.ensures, c.if-out-n.true))

pub returns : goal.returns
returns c =
    let list : is_list c.args.bytes.now ≡ true = sym c.is_list.ensures ∙ c.if-not-is_list.false in
    let range : all_in_range (stars c.args.bytes.now) ≡ true = sym c.all_in_range.ensures ∙ c.if-not-all_in_range.false in
    let stand : all_are is_still (stars c.args.bytes.now) ≡ true = sym c.all_still.ensures ∙ c.if-not-all_still.false in
    puts _ _ _ _ (moves_down _ list range stand) _ _
    (omega (arith, length_down _ _ c.count-n.ensures, c.if-out-n.false))
    (same (records_down _ _ refl) c.write_down.ensures)
