-- `coords_gal::round_pole` meets its contract.
use Rattle.coords_gal.specs.rules.Galactic.{round_pole}
use Rattle.coords_gal.proofs.round_pole.Goals as goal

pub returns : goal.returns
unfolding round_pole
returns c =
    rw (c.tangent.ensures, c.cosine-2.ensures, c.cosine.ensures, c.sine-2.ensures, c.sine.ensures, c.pole-p.ensures) at c.arctangent_in.ensures
