-- `brundelak::published::brundelak_dec_frm_hz_published` meets its contract.
use Rattle.brundelak_handed.specs.laws.Boundary.{handed_radians}
use Rattle.brundelak.proofs.published.brundelak_dec_frm_hz_published.Goals as goal

pub returns : goal.returns
returns c = handed_radians c.dec_frm_hz.ensures c.hand_radians.ensures
