-- `transit::arc_cosine` meets its contract.
use Rattle.elementary.specs.rules.Sine.{sin_cos_of}
use Rattle.transit.specs.rules.Arc.{arc_cosine}
use Rattle.transit.proofs.arc_cosine.Goals as goal

pub returns : goal.returns
unfolding arc_cosine sin_cos_of
returns c =
    rw (c.sine.ensures, c.sin_cos_of-p.ensures, c.sin_cos_of-d.ensures, c.fold-h.ensures)
