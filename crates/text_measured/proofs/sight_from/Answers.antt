-- `text_measured::sight_from` meets its contract.
use Rattle.std.proofs.Common.{rules}
use Rattle.text_measured.specs.rules.Sight.{sight_from}
use Rattle.text_measured.proofs.sight_from.Goals as goal

pub returns-in_err-number : goal.returns-in_err-number
unfolding sight_from
returns-in_err-number c = search rules

pub returns-in_err-asc : goal.returns-in_err-asc
unfolding sight_from
returns-in_err-asc c = search rules

pub returns-in_err-dec : goal.returns-in_err-dec
unfolding sight_from
returns-in_err-dec c = search rules

pub returns : goal.returns
unfolding sight_from
returns c = search rules
