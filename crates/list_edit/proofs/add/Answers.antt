-- `list_edit::add` meets its contract: at each return the tests that led there say which case of the rule holds.
use mathlib.Core.Path.{◌≡◌, sym, ◌∙◌}
use mathlib.Core.Bool.{true}
use Prim.Native.Nat.{◌≤◌, ◌<◌}
use native.Mathlib.Omega.{arith}
use lib.ListN.{length}
use Rattle.list.specs.rules.Record.{in_range}
use Rattle.list.specs.rules.Find.{index_of}
use Rattle.list.specs.rules.Stars.{is_list, count_of, stars}
use Rattle.list.specs.laws.Stars.{length_stars, few}
use Rattle.list_edit.specs.laws.Edit.{no_list, refuses, changes, add_zero, add_out_of_range, add_present, add_full, add_placed}
use Rattle.list_edit.proofs.add.Goals as goal

pub returns-then-not-is_list : goal.returns-then-not-is_list
returns-then-not-is_list c = no_list _ _ (sym c.is_list.ensures ∙ c.if-not-is_list.true)

pub returns-then-number-eq0 : goal.returns-then-number-eq0
returns-then-number-eq0 c =
    let listed : is_list c.args.bytes.now ≡ true = sym c.is_list.ensures ∙ c.if-not-is_list.false in
    refuses _ _ _ listed (add_zero _ _ c.if-number-eq0.true)

pub returns-then-not-in_range : goal.returns-then-not-in_range
returns-then-not-in_range c =
    let listed : is_list c.args.bytes.now ≡ true = sym c.is_list.ensures ∙ c.if-not-is_list.false in
    refuses _ _ _ listed (add_out_of_range _ _ (sym c.in_range.ensures ∙ c.if-not-in_range.true))

pub returns-then-index_of-n : goal.returns-then-index_of-n
returns-then-index_of-n c =
    let listed : is_list c.args.bytes.now ≡ true = sym c.is_list.ensures ∙ c.if-not-is_list.false in
    let ranged : in_range c.args.star ≡ true = sym c.in_range.ensures ∙ c.if-not-in_range.false in
    let index = c.index_of.ensures in
    let many = c.count-n.ensures in
    refuses _ _ _ listed
    (add_present _ _ c.if-number-eq0.false ranged
    (omega (arith, index, many, c.if-index_of-n.true, length_stars c.args.bytes.now)))

pub returns-then-i-n : goal.returns-then-i-n
returns-then-i-n c =
    let listed : is_list c.args.bytes.now ≡ true = sym c.is_list.ensures ∙ c.if-not-is_list.false in
    let ranged : in_range c.args.star ≡ true = sym c.in_range.ensures ∙ c.if-not-in_range.false in
    let absent : length (stars c.args.bytes.now) ≤ index_of c.args.star.number (stars c.args.bytes.now) = let index = c.index_of.ensures in
    let many = c.count-n.ensures in
    omega (arith, index, many, c.if-index_of-n.false, length_stars c.args.bytes.now) in
    let index = c.index_of-i.ensures in
    let many = c.count-n.ensures in
    refuses _ _ _ listed
    (add_full _ _ c.if-number-eq0.false ranged absent
    (omega (arith, index, many, c.if-i-n.true, length_stars c.args.bytes.now)))

pub overflow_mul-i : goal.overflow_mul-i
overflow_mul-i c =
    let listed : is_list c.args.bytes.now ≡ true = sym c.is_list.ensures ∙ c.if-not-is_list.false in
    let index : c.index_of-i.result < count_of c.args.bytes.now = omega (arith, c.count-n.ensures, c.if-i-n.false) in
    omega (arith, index, few _ listed)

pub returns : goal.returns
returns c =
    let listed : is_list c.args.bytes.now ≡ true = sym c.is_list.ensures ∙ c.if-not-is_list.false in
    let ranged : in_range c.args.star ≡ true = sym c.in_range.ensures ∙ c.if-not-in_range.false in
    let absent : length (stars c.args.bytes.now) ≤ index_of c.args.star.number (stars c.args.bytes.now) = let index = c.index_of.ensures in
    let many = c.count-n.ensures in
    omega (arith, index, many, c.if-index_of-n.false, length_stars c.args.bytes.now) in
    let index : c.index_of-i.result < count_of c.args.bytes.now = omega (arith, c.count-n.ensures, c.if-i-n.false) in
    let found = c.index_of-i in
    let inside = index in
    changes _ _ found.result c.args.star _ _ (λ k. (c.slice_known-1.given k).fits) listed index
    (add_placed _ _ c.if-number-eq0.false ranged absent found.result found.ensures
    (omega (arith, inside, length_stars c.args.bytes.now)))
    c.write_star.ensures
