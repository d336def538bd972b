-- `list_radio::count_at` meets its contract.
use Rattle.std.proofs.lemmas.Result.{err_from_is_err_and}
use Rattle.list_groups.specs.rules.Reading.{read_number}
use Rattle.list_groups.specs.laws.Tails.{found, not_found, number_leaves_tail}
use Rattle.list_radio.proofs.Reading.{count_refused, few_enough, too_many}
use Rattle.list_radio.proofs.count_at.Goals as goal

pub returns-in_err-n : goal.returns-in_err-n
returns-in_err-n c =
    let p = err_from_is_err_and c.from_residual.result c.from_residual.ensures.1 in
    rw (p.1, p.2) (count_refused _ _ _ (not_found read_number _ _ _ c.in_err-n.ensures))

pub returns-then-n-le-MOST_STARS : goal.returns-then-n-le-MOST_STARS
returns-then-n-le-MOST_STARS c =
    few_enough _ _ _ _ (found read_number _ _ number_leaves_tail _ _ c.in_ok-n.ensures) c.if-n-le-MOST_STARS.true

pub returns-else-n-le-MOST_STARS : goal.returns-else-n-le-MOST_STARS
returns-else-n-le-MOST_STARS c =
    too_many _ _ _ _ (found read_number _ _ number_leaves_tail _ _ c.in_ok-n.ensures) c.if-n-le-MOST_STARS.false
