-- `sidereal::apparent_in` meets its contract.
use Rattle.sidereal.proofs.apparent_in.Goals as goal

pub returns : goal.returns
returns c =
    rw (c.cosine.ensures, c.fold-f.ensures, c.true_obliquity.ensures) at c.folded-x.ensures
