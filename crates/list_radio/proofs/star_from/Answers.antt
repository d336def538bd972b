-- `list_radio::star_from` meets its contract: what is said of the first three numbers, and of the two yearly changes.
use Rattle.std.proofs.lemmas.Result.{err_from_is_err_and}
use borrow.Author.Tests.{not-true, not-false}
use mathlib.Core.List.{[], ◌∷◌}
use Rattle.list_groups.specs.rules.Reading.{read_number}
use Rattle.list_groups.specs.rules.Several.{read_all}
use Rattle.list_groups.specs.notions.Tail.{Found}
use Rattle.list_groups.specs.laws.Tails.{found, not_found, number_leaves_tail}
use Rattle.list_groups.specs.laws.Several.{all_leave_tail}
use Rattle.list_radio.proofs.Reading.{place_refused, still_read, rates_refused, rates_read}
use Rattle.list_radio.proofs.star_from.Goals as goal

pub returns-in_err-number : goal.returns-in_err-number
returns-in_err-number c =
    let p = err_from_is_err_and c.from_residual.result c.from_residual.ensures.1 in
    rw (p.1, p.2) (place_refused _ _ _ _ (not_found (read_all read_number 3) _ _ _ c.in_err-number.ensures))

pub returns-then-not-moving : goal.returns-then-not-moving
returns-then-not-moving c =
    let place : Found (read_all read_number 3) c.args.bytes.now c.args.at (c.in_ok-number.number ∷ c.in_ok-number.asc ∷ c.in_ok-number.dec ∷ []) c.in_ok-number.a = found (read_all read_number 3) _ _ (all_leave_tail read_number number_leaves_tail 3) _ _ c.in_ok-number.ensures in
    still_read _ _ _ _ _ _ place _ _ (c.if-not-moving.true) c.star_of.ensures

pub returns-in_err-asc_rate : goal.returns-in_err-asc_rate
returns-in_err-asc_rate c =
    let place : Found (read_all read_number 3) c.args.bytes.now c.args.at (c.in_ok-number.number ∷ c.in_ok-number.asc ∷ c.in_ok-number.dec ∷ []) c.in_ok-number.a = found (read_all read_number 3) _ _ (all_leave_tail read_number number_leaves_tail 3) _ _ c.in_ok-number.ensures in
    let p = err_from_is_err_and c.from_residual-in_err-asc_rate.result c.from_residual-in_err-asc_rate.ensures.1 in
    rw (p.1, p.2)
    (rates_refused _ _ _ _ _ _ place _ (c.if-not-moving.false) _
    (not_found (read_all read_number 2) _ _ _ c.in_err-asc_rate.ensures))

pub returns : goal.returns
returns c =
    let place : Found (read_all read_number 3) c.args.bytes.now c.args.at (c.in_ok-number.number ∷ c.in_ok-number.asc ∷ c.in_ok-number.dec ∷ []) c.in_ok-number.a = found (read_all read_number 3) _ _ (all_leave_tail read_number number_leaves_tail 3) _ _ c.in_ok-number.ensures in
    let rates : Found (read_all read_number 2) c.args.bytes.now c.in_ok-number.a (c.in_ok-asc_rate.asc_rate ∷ c.in_ok-asc_rate.dec_rate ∷ []) c.in_ok-asc_rate.next = found (read_all read_number 2) _ _ (all_leave_tail read_number number_leaves_tail 2) _ _ c.in_ok-asc_rate.ensures in
    rates_read _ _ _ _ _ _ place _ (c.if-not-moving.false) _ _ _ _ rates c.star_of-2.ensures
