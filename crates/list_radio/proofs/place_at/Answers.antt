-- `list_radio::place_at` meets its contract: what `number_at` says of each number.
use Rattle.std.proofs.lemmas.Result.{err_from_is_err_and}
use Rattle.list_groups.specs.rules.Reading.{read_number}
use Rattle.list_groups.specs.notions.Tail.{Found}
use Rattle.list_groups.specs.laws.Tails.{found, not_found, number_leaves_tail}
use Rattle.list_radio.proofs.Reading.{now_refused, on_refused, on_read, last_read}
use Rattle.list_radio.proofs.place_at.Goals as goal

pub returns-in_err-number : goal.returns-in_err-number
returns-in_err-number c =
    let p = err_from_is_err_and c.from_residual.result c.from_residual.ensures.1 in
    rw (p.1, p.2) (now_refused _ _ _ _ (not_found read_number _ _ _ c.in_err-number.ensures))

pub returns-in_err-asc : goal.returns-in_err-asc
returns-in_err-asc c =
    let first : Found read_number c.args.bytes.now c.args.at c.in_ok-number.number c.in_ok-number.a = found read_number _ _ number_leaves_tail _ _ c.in_ok-number.ensures in
    let p = err_from_is_err_and c.from_residual-in_err-asc.result c.from_residual-in_err-asc.ensures.1 in
    rw (p.1, p.2) (on_refused _ _ _ _ _ first _ (now_refused _ _ _ _ (not_found read_number _ _ _ c.in_err-asc.ensures)))

pub returns-in_err-dec : goal.returns-in_err-dec
returns-in_err-dec c =
    let first : Found read_number c.args.bytes.now c.args.at c.in_ok-number.number c.in_ok-number.a = found read_number _ _ number_leaves_tail _ _ c.in_ok-number.ensures in
    let second : Found read_number c.args.bytes.now c.in_ok-number.a c.in_ok-asc.asc c.in_ok-asc.b = found read_number _ _ number_leaves_tail _ _ c.in_ok-asc.ensures in
    let p = err_from_is_err_and c.from_residual-in_err-dec.result c.from_residual-in_err-dec.ensures.1 in
    rw (p.1, p.2)
    (on_refused _ _ _ _ _ first _
    (on_refused _ _ _ _ _ second _ (now_refused _ _ _ _ (not_found read_number _ _ _ c.in_err-dec.ensures))))

pub returns : goal.returns
returns c =
    let first : Found read_number c.args.bytes.now c.args.at c.in_ok-number.number c.in_ok-number.a = found read_number _ _ number_leaves_tail _ _ c.in_ok-number.ensures in
    let second : Found read_number c.args.bytes.now c.in_ok-number.a c.in_ok-asc.asc c.in_ok-asc.b = found read_number _ _ number_leaves_tail _ _ c.in_ok-asc.ensures in
    on_read _ _ _ _ _ first _
    (on_read _ _ _ _ _ second _ (last_read _ _ _ _ (found read_number _ _ number_leaves_tail _ _ c.in_ok-dec.ensures)))
