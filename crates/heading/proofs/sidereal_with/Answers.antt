-- `heading::sidereal_with` meets its contract.
use Rattle.heading.proofs.sidereal_with.Goals as goal

pub returns : goal.returns
returns c = rw (c.mean_obliquity_on.ensures, c.mean_on.ensures) at c.apparent_from.ensures
