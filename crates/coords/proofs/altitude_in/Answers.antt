-- `coords::altitude_in` meets its contract.
use Rattle.elementary.specs.rules.Sine.{two_sin_cos_of}
use Rattle.coords.specs.rules.Horizon.{altitude_in}
use Rattle.coords.proofs.altitude_in.Goals as goal

pub returns : goal.returns
unfolding altitude_in two_sin_cos_of
returns c =
    rw (c.cosine.ensures, c.two_sin_cos_of-t.ensures, c.fold-h.ensures) at c.arcsine_in.ensures
