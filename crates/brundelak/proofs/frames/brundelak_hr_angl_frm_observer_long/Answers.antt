-- `brundelak::frames::brundelak_hr_angl_frm_observer_long` meets its contract.
use Rattle.brundelak_handed.specs.laws.Boundary.{handed_radians}
use Rattle.brundelak.proofs.frames.brundelak_hr_angl_frm_observer_long.Goals as goal

pub returns : goal.returns
returns c = handed_radians c.hr_angl_frm_observer_long.ensures c.hand_radians.ensures
