-- `text_night::sight_from` meets its contract.
use Rattle.std.proofs.Common.{rules}
use Rattle.text_night.specs.rules.Sight.{sight_from}
use Rattle.text_night.proofs.sight_from.Goals as goal

pub returns-in_err-number : goal.returns-in_err-number
unfolding sight_from
returns-in_err-number c = search rules

pub returns-in_err-star : goal.returns-in_err-star
unfolding sight_from
returns-in_err-star c = search rules

pub returns-in_err-mark : goal.returns-in_err-mark
unfolding sight_from
returns-in_err-mark c = search rules

pub returns : goal.returns
unfolding sight_from
returns c = search rules
