-- `list_radio::put_head` meets its contract.
use borrow.Author.Tests.{not-true, not-false}
use mathlib.Core.Path.{◌≡◌}
use Prim.Native.Nat.{ℕ, ◌+◌}
use native.Mathlib.Omega.{arith}
use lib.ListN.{length}
use Rattle.list_groups.specs.rules.Groups.{groups}
use Rattle.list_groups.specs.laws.Length.{at_most_five}
use Rattle.list_radio.specs.rules.Radio.{head_bytes}
use Rattle.lent.specs.laws.Put.{put_refused, tested_no_room, tested_puts}
use Rattle.list_radio.specs.laws.Put.{head_text_lem, no_head_text, length_head}
use Rattle.list_radio.proofs.put_head.Goals as goal

sized : (n k : ℕ) → k ≡ length (groups n) → 1 + k ≡ length (head_bytes n)
sized n k e = omega (arith, length_head n)

pub returns-then-count-gt-MOST_STARS : goal.returns-then-count-gt-MOST_STARS
returns-then-count-gt-MOST_STARS c = put_refused _ _ _ _ (no_head_text _ c.if-count-gt-MOST_STARS.true)

pub overflow_add-count : goal.overflow_add-count
overflow_add-count c = omega (arith, c.count.ensures, at_most_five c.args.count)

pub returns-then-not-has_room : goal.returns-then-not-has_room
returns-then-not-has_room c =
    let n = c.args.count in
    tested_no_room _ _ _ _ (head_text_lem n c.if-count-gt-MOST_STARS.false) _ (sized n _ c.count.ensures) _ c.has_room.ensures (c.if-not-has_room.true)

pub returns : goal.returns
returns c =
    let n = c.args.count in
    tested_puts _ _ _ _ (head_text_lem n c.if-count-gt-MOST_STARS.false) _ (sized n _ c.count.ensures) _ c.has_room.ensures (c.if-not-has_room.false) _ _
    c.write_head.ensures
