-- `aberr_args::added` meets its contract.
use Rattle.aberr_args.specs.rules.Row.{added}
use Rattle.aberr_args.proofs.added.Goals as goal

pub returns : goal.returns
unfolding added
returns c =
    rw (c.share-3.ensures, c.z_terms.ensures, c.share-2.ensures, c.y_terms.ensures, c.share.ensures, c.x_terms.ensures)
