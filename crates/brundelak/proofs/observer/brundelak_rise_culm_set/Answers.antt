-- `brundelak::observer::brundelak_rise_culm_set` meets its contract.
use Rattle.brundelak_handed.specs.laws.Boundary.{handed_three}
use Rattle.brundelak.proofs.observer.brundelak_rise_culm_set.Goals as goal

pub returns : goal.returns
returns c = handed_three c.rise_culm_set.ensures c.hand_three.ensures
