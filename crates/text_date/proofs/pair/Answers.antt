-- `text_date::pair` meets its contract.
use Rattle.std.proofs.Common.{◌+◌, sym, arith, rules}
use Rattle.text_date.specs.rules.Digits.{at, digit_of, pair_at}
use Rattle.text_date.specs.laws.Steps.{joined_first, joined_second, joined_both}
use Rattle.text_date.proofs.pair.Goals as goal

pub returns-in_err-digit-clause-says : goal.returns-in_err-digit-clause-says
unfolding pair_at
returns-in_err-digit-clause-says c =
    let text = c.args.text.now in
    rw (joined_first 10 (digit_of (at text c.args.at)) (digit_of (at text (c.args.at + 1))) (sym c.in_err-digit.ensures.says)) (search rules)

pub returns-in_err-digit-2-clause-says : goal.returns-in_err-digit-2-clause-says
unfolding pair_at
returns-in_err-digit-2-clause-says c =
    let text = c.args.text.now in
    rw (joined_second 10 (digit_of (at text c.args.at)) (digit_of (at text (c.args.at + 1))) (sym c.in_err-digit-2.ensures.says)) (search rules)

pub returns-clause-says : goal.returns-clause-says
unfolding pair_at
returns-clause-says c =
    rw (← c.in_ok-digit.ensures.says, ← c.in_ok-digit-2.ensures.says)
    (joined_both 10 _ _ (omega (arith, c.in_ok-digit.ensures.below)) (omega (arith, c.in_ok-digit-2.ensures.below)))
