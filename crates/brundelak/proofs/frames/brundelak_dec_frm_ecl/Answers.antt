-- `brundelak::frames::brundelak_dec_frm_ecl` meets its contract.
use Rattle.brundelak_handed.specs.laws.Boundary.{handed_radians}
use Rattle.brundelak.proofs.frames.brundelak_dec_frm_ecl.Goals as goal

pub returns : goal.returns
returns c = handed_radians c.dec_frm_ecl.ensures c.hand_radians.ensures
