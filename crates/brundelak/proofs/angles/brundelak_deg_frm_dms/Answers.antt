-- `brundelak::angles::brundelak_deg_frm_dms` meets its contract.
use Rattle.brundelak_handed.specs.laws.Boundary.{handed_degrees}
use Rattle.brundelak.proofs.angles.brundelak_deg_frm_dms.Goals as goal

pub returns : goal.returns
returns c = handed_degrees c.deg_frm_dms.ensures c.hand_degrees.ensures
