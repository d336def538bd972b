-- `nutation_args::with_row` meets its contract.
use Rattle.elementary.specs.rules.Sine.{sin_cos_of}
use Rattle.nutation_args.specs.rules.Sum.{with_row}
use Rattle.nutation_args.proofs.with_row.Goals as goal

pub returns : goal.returns
unfolding with_row sin_cos_of
returns c =
    rw (c.oblq_share-oblq.ensures, c.long_share-long.ensures, c.sin_cos_of-w.ensures, c.argument.ensures)
