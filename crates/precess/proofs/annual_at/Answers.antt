-- `precess::annual_at` meets its contract.
use Rattle.precess.specs.rules.Annual.{annual_at}
use Rattle.precess.proofs.annual_at.Goals as goal

pub returns : goal.returns
unfolding annual_at
returns c = rw (c.cosine.ensures, c.tangent.ensures, c.sine.ensures)
