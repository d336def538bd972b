-- `nutation::nutation_in` meets its contract.
use Rattle.nutation.specs.rules.Point.{nutation_in_eq_coords_in}
use Rattle.nutation.proofs.nutation_in.Goals as goal

pub returns : goal.returns
unfolding nutation_in_eq_coords_in
returns c =
    rw (c.cosine.ensures, c.sine.ensures, c.toward.ensures, c.fold-e.ensures) at c.nutation_at.ensures
