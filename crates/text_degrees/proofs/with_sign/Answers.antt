-- `text_degrees::with_sign` meets its contract.
use Rattle.std.proofs.Common.{rules}
use Rattle.text_degrees.specs.rules.Degrees.{with_sign}
use Rattle.text_degrees.proofs.with_sign.Goals as goal

pub returns-in_err-number : goal.returns-in_err-number
unfolding with_sign
returns-in_err-number c = search rules

pub returns : goal.returns
unfolding with_sign
returns c = search rules
