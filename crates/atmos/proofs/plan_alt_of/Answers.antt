-- `atmos::plan_alt_of` meets its contract.
use Rattle.atmos.specs.rules.Sight.{plan_alt_of}
use Rattle.atmos.proofs.plan_alt_of.Goals as goal

pub returns : goal.returns
unfolding plan_alt_of
returns c = rw (c.degrees.ensures, c.refrac_frm_true_alt_of.ensures)
