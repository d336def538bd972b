-- `brundelak::frames::brundelak_asc_frm_ecl` meets its contract.
use Rattle.brundelak_handed.specs.laws.Boundary.{handed_radians}
use Rattle.brundelak.proofs.frames.brundelak_asc_frm_ecl.Goals as goal

pub returns : goal.returns
returns c = handed_radians c.asc_frm_ecl.ensures c.hand_radians.ensures
