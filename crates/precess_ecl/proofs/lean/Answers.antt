-- `precess_ecl::lean` meets its contract.
use Rattle.precess_ecl.specs.rules.Orbit.{leaned_of}
use Rattle.precess_ecl.proofs.lean.Goals as goal

pub returns : goal.returns
unfolding leaned_of
returns c = rw (c.cosine-2.ensures, c.cosine.ensures, c.sine.ensures, c.sine-si.ensures)
