-- `brundelak::frames::brundelak_ecl_frm_eq` meets its contract.
use Rattle.brundelak_handed.specs.laws.Boundary.{handed_ecliptic}
use Rattle.brundelak.proofs.frames.brundelak_ecl_frm_eq.Goals as goal

pub returns : goal.returns
returns c = handed_ecliptic c.ecl_frm_eq.ensures c.hand_ecliptic.ensures
