-- `heading_mean::residual_from` meets its contract.
use Rattle.heading_mean.specs.rules.Residual.{across, residual_from}
use Rattle.heading_mean.proofs.residual_from.Goals as goal

pub returns : goal.returns
unfolding residual_from across
returns c =
    rw (c.milliarcseconds.ensures, c.taken_back.ensures, c.within_360.ensures) at c.rounded.ensures
