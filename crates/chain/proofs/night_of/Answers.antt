-- `chain::night_of` meets its contract.
use Rattle.chain.specs.rules.Night.{night_of}
use Rattle.chain.proofs.night_of.Goals as goal

pub returns : goal.returns
unfolding night_of
returns c =
    rw (c.velocity_on.ensures, c.true_obliquity.ensures, c.mean_obliquity_on.ensures, c.eq_precession.ensures, c.nutation_on-n.ensures) at c.night_from.ensures
