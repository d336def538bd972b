-- `atmos::refrac_frm_apprnt_alt_of` meets its contract.
use Rattle.atmos.specs.rules.Refraction.{refrac_frm_apprnt_alt_of}
use Rattle.atmos.proofs.refrac_frm_apprnt_alt_of.Goals as goal

pub returns : goal.returns
unfolding refrac_frm_apprnt_alt_of
returns c = rw c.tangent.ensures
