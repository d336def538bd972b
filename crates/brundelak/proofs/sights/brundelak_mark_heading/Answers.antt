-- `brundelak::sights::brundelak_mark_heading` meets its contract.
use Rattle.brundelak_handed.specs.laws.Boundary.{handed_degrees}
use Rattle.brundelak.proofs.sights.brundelak_mark_heading.Goals as goal

pub returns : goal.returns
returns c = handed_degrees c.mark_heading.ensures c.hand_degrees.ensures
