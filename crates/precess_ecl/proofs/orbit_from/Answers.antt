-- `precess_ecl::orbit_from` meets its contract.
use Rattle.std.proofs.Common.{rules}
use Rattle.quantity.specs.rules.Answer.{then}
use mathlib.Core.Path.{ap, ◌∙◌}
use Rattle.elementary.specs.rules.Sine.{folded_sine}
use Rattle.precess_ecl.specs.rules.Orbit.{orbit_from}
use Rattle.precess_ecl.proofs.orbit_from.Goals as goal

pub returns-then-s : goal.returns-then-s
unfolding orbit_from
returns-then-s c = rw (← (c.sine-s.ensures ∙ ap folded_sine c.fold.ensures), c.if-s.true)

pub returns-in_err-x : goal.returns-in_err-x
unfolding orbit_from then
returns-in_err-x c = search rules

pub returns : goal.returns
unfolding orbit_from then
returns c = search rules
