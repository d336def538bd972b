-- `elementary::Folded::sine` meets its contract.
use Rattle.elementary.specs.rules.Sine.{folded_sine}
use Rattle.elementary.proofs.Folded.sine.Goals as goal

pub returns : goal.returns
unfolding folded_sine
returns c = rw c.sine_quarter.ensures at c.negated_if.ensures
