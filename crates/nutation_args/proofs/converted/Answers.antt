-- `nutation_args::converted` meets its contract.
use Rattle.nutation_args.specs.rules.Sum.{converted}
use Rattle.nutation_args.proofs.converted.Goals as goal

pub returns : goal.returns
unfolding converted
returns c = rw (c.radians.ensures, c.radians-2.ensures)
