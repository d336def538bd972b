-- `atmos::sight_alt_of` meets its contract.
use Rattle.atmos.specs.rules.Sight.{sight_alt_of}
use Rattle.atmos.proofs.sight_alt_of.Goals as goal

pub returns : goal.returns
unfolding sight_alt_of
returns c = rw (c.degrees.ensures, c.refrac_frm_apprnt_alt_of.ensures)
