-- `brundelak::frames::brundelak_asc_frm_gal` meets its contract.
use Rattle.brundelak_handed.specs.laws.Boundary.{handed_radians}
use Rattle.brundelak.proofs.frames.brundelak_asc_frm_gal.Goals as goal

pub returns : goal.returns
returns c = handed_radians c.asc_frm_gal.ensures c.hand_radians.ensures
