-- `brundelak::frames::brundelak_hr_angl_frm_loc_sidr` meets its contract.
use Rattle.brundelak_handed.specs.laws.Boundary.{handed_radians}
use Rattle.brundelak.proofs.frames.brundelak_hr_angl_frm_loc_sidr.Goals as goal

pub returns : goal.returns
returns c = handed_radians c.hr_angl_frm_loc_sidr.ensures c.hand_radians.ensures
