-- `list_radio::rates_at` meets its contract: what `number_at` says of each number.
use Rattle.std.proofs.lemmas.Result.{err_from_is_err_and}
use Rattle.list_groups.specs.rules.Reading.{read_number}
use Rattle.list_groups.specs.notions.Tail.{Found}
use Rattle.list_groups.specs.laws.Tails.{found, not_found, number_leaves_tail}
use Rattle.list_radio.proofs.Reading.{now_refused, on_refused, on_read, last_read}
use Rattle.list_radio.proofs.rates_at.Goals as goal

pub returns-in_err-asc_rate : goal.returns-in_err-asc_rate
returns-in_err-asc_rate c =
    let p = err_from_is_err_and c.from_residual.result c.from_residual.ensures.1 in
    rw (p.1, p.2) (now_refused _ _ _ _ (not_found read_number _ _ _ c.in_err-asc_rate.ensures))

pub returns-in_err-dec_rate : goal.returns-in_err-dec_rate
returns-in_err-dec_rate c =
    let first : Found read_number c.args.bytes.now c.args.at c.in_ok-asc_rate.asc_rate c.in_ok-asc_rate.a = found read_number _ _ number_leaves_tail _ _ c.in_ok-asc_rate.ensures in
    let p = err_from_is_err_and c.from_residual-in_err-dec_rate.result c.from_residual-in_err-dec_rate.ensures.1 in
    rw (p.1, p.2) (on_refused _ _ _ _ _ first _ (now_refused _ _ _ _ (not_found read_number _ _ _ c.in_err-dec_rate.ensures)))

pub returns : goal.returns
returns c =
    let first : Found read_number c.args.bytes.now c.args.at c.in_ok-asc_rate.asc_rate c.in_ok-asc_rate.a = found read_number _ _ number_leaves_tail _ _ c.in_ok-asc_rate.ensures in
    on_read _ _ _ _ _ first _
    (last_read _ _ _ _ (found read_number _ _ number_leaves_tail _ _ c.in_ok-dec_rate.ensures))
