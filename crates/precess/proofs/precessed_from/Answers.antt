-- `precess::precessed_from` meets its contract.
use Rattle.precess.specs.rules.Equatorial.{precessed_from}
use Rattle.precess.proofs.precessed_from.Goals as goal

pub returns : goal.returns
unfolding precessed_from
returns c =
    rw (c.arcsine_in.ensures, c.plus.ensures, c.arctangent_in.ensures, c.arcs_of-a.ensures) at c.both.ensures
