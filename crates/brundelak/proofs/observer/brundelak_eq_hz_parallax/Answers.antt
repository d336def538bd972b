-- `brundelak::observer::brundelak_eq_hz_parallax` meets its contract.
use Rattle.brundelak_handed.specs.laws.Boundary.{handed_radians}
use Rattle.brundelak.proofs.observer.brundelak_eq_hz_parallax.Goals as goal

pub returns : goal.returns
returns c = handed_radians c.eq_hz_parallax.ensures c.hand_radians.ensures
