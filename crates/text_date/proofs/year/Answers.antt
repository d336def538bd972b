-- `text_date::year` meets its contract.
use Rattle.std.proofs.Common.{sym, arith, rules}
use Rattle.text_date.specs.rules.Digits.{pair_at, year_at}
use Rattle.text_date.specs.laws.Steps.{joined_first, joined_second, joined_both}
use Rattle.text_date.proofs.year.Goals as goal

pub returns-in_err-pair-clause-says : goal.returns-in_err-pair-clause-says
unfolding year_at
returns-in_err-pair-clause-says c =
    let text = c.args.text.now in
    rw (joined_first 100 (pair_at text 0) (pair_at text 2) (sym c.in_err-pair.ensures.says)) (search rules)

pub returns-in_err-pair-2-clause-says : goal.returns-in_err-pair-2-clause-says
unfolding year_at
returns-in_err-pair-2-clause-says c =
    let text = c.args.text.now in
    rw (joined_second 100 (pair_at text 0) (pair_at text 2) (sym c.in_err-pair-2.ensures.says)) (search rules)

pub returns-clause-says : goal.returns-clause-says
unfolding year_at
returns-clause-says c =
    rw (← c.in_ok-pair.ensures.says, ← c.in_ok-pair-2.ensures.says)
    (joined_both 100 _ _ (omega (arith, c.in_ok-pair.ensures.below)) (omega (arith, c.in_ok-pair-2.ensures.below)))
