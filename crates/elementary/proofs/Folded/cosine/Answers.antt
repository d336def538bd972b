-- `elementary::Folded::cosine` meets its contract.
use Rattle.elementary.specs.rules.Sine.{folded_cosine}
use Rattle.elementary.proofs.Folded.cosine.Goals as goal

pub returns : goal.returns
unfolding folded_cosine
returns c = c.cosine_quarter.ensures
