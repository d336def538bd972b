-- `coords::azimuth_in` meets its contract.
use Rattle.elementary.specs.rules.Sine.{sin_cos_of, two_sin_cos_of}
use Rattle.coords.specs.rules.Horizon.{azimuth_in}
use Rattle.coords.proofs.azimuth_in.Goals as goal

pub returns : goal.returns
unfolding azimuth_in sin_cos_of two_sin_cos_of
returns c =
    rw (c.sin_cos_of-h.ensures, c.two_sin_cos_of-t.ensures) at c.arctangent_in.ensures
