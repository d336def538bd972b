-- `parallax_ecl::ecliptic_at` meets its contract.
use Rattle.std.proofs.Common.{rules}
use Rattle.quantity.specs.rules.Answer.{then}
use Rattle.parallax_ecl.specs.rules.Ecliptic.{ecliptic_at}
use Rattle.parallax_ecl.proofs.ecliptic_at.Goals as goal

pub returns-then-n : goal.returns-then-n
unfolding ecliptic_at
returns-then-n c = rw (← c.nearby-n.ensures, c.if-n.true)

pub returns-in_err-long : goal.returns-in_err-long
unfolding ecliptic_at then
returns-in_err-long c = search rules

pub returns : goal.returns
unfolding ecliptic_at then
returns c = search rules
