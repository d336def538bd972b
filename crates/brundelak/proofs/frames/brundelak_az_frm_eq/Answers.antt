-- `brundelak::frames::brundelak_az_frm_eq` meets its contract.
use Rattle.brundelak_handed.specs.laws.Boundary.{handed_radians}
use Rattle.brundelak.proofs.frames.brundelak_az_frm_eq.Goals as goal

pub returns : goal.returns
returns c = handed_radians c.az_frm_eq.ensures c.hand_radians.ensures
