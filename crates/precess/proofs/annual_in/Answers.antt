-- `precess::annual_in` meets its contract.
use Rattle.precess.specs.rules.Annual.{annual_in}
use Rattle.precess.proofs.annual_in.Goals as goal

pub returns : goal.returns
unfolding annual_in
returns c =
    rw (c.fold-2.ensures, c.fold.ensures, c.radians-2.ensures, c.annual_n.ensures, c.radians.ensures, c.annual_m.ensures, c.century-c.ensures) at c.annual_at.ensures
