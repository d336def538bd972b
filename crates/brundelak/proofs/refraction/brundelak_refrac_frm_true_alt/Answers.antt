-- `brundelak::refraction::brundelak_refrac_frm_true_alt` meets its contract.
use Rattle.brundelak_handed.specs.laws.Boundary.{handed_arcminutes}
use Rattle.brundelak.proofs.refraction.brundelak_refrac_frm_true_alt.Goals as goal

pub returns : goal.returns
returns c = handed_arcminutes c.refrac_frm_true_alt.ensures c.hand_arcminutes.ensures
