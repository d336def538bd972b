-- `elementary::two_sin_cos_of` meets its contract.
use Rattle.elementary.proofs.two_sin_cos_of.Goals as goal

pub returns : goal.returns
returns c = c.two_sin_cos_at.ensures
