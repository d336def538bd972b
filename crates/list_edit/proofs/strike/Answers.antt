-- `list_edit::strike` meets its contract: at each return the tests that led there say which case of the rule holds.
use mathlib.Core.Path.{◌≡◌, sym, ap, ◌∙◌}
use mathlib.Core.Bool.{true}
use Prim.Native.Nat.{◌<◌}
use native.Mathlib.Omega.{arith}
use Rattle.lent.specs.laws.Writing.{same}
use Rattle.list.specs.rules.Record.{star_bytes}
use Rattle.list.specs.rules.Stars.{is_list, count_of, nought}
use Rattle.list.specs.laws.Stars.{length_stars, few}
use Rattle.list_edit.specs.laws.Edit.{no_list, refuses, changes, strike_zero, strike_absent, strike_present}
use Rattle.list_edit.proofs.strike.Goals as goal

pub returns-then-not-is_list : goal.returns-then-not-is_list
returns-then-not-is_list c = no_list _ _ (sym c.is_list.ensures ∙ c.if-not-is_list.true)

pub returns-then-number-eq0 : goal.returns-then-number-eq0
returns-then-number-eq0 c =
    let listed : is_list c.args.bytes.now ≡ true = sym c.is_list.ensures ∙ c.if-not-is_list.false in
    refuses _ _ _ listed (strike_zero _ _ c.if-number-eq0.true)

pub returns-then-i-count : goal.returns-then-i-count
returns-then-i-count c =
    let listed : is_list c.args.bytes.now ≡ true = sym c.is_list.ensures ∙ c.if-not-is_list.false in
    let many = c.count.ensures in
    refuses _ _ _ listed (strike_absent _ _ (omega (arith, c.index_of-i.ensures, many, c.if-i-count.true, length_stars c.args.bytes.now)))

pub overflow_mul-i : goal.overflow_mul-i
overflow_mul-i c =
    let listed : is_list c.args.bytes.now ≡ true = sym c.is_list.ensures ∙ c.if-not-is_list.false in
    let index : c.index_of-i.result < count_of c.args.bytes.now = omega (arith, c.count.ensures, c.if-i-count.false) in
    omega (arith, index, few _ listed)

pub returns : goal.returns
returns c =
    let listed : is_list c.args.bytes.now ≡ true = sym c.is_list.ensures ∙ c.if-not-is_list.false in
    let index : c.index_of-i.result < count_of c.args.bytes.now = omega (arith, c.count.ensures, c.if-i-count.false) in
    let i = c.index_of-i.result in
    let inside = index in
    changes _ _ i nought _ _ (λ k. (c.slice_known-1.given k).fits) listed inside
    (strike_present _ _ i c.if-number-eq0.false c.index_of-i.ensures (omega (arith, inside, length_stars c.args.bytes.now)))
    (same (ap star_bytes c.nought.ensures) c.write_star.ensures)
