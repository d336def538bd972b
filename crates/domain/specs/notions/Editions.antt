-- The third angle of precession as Meeus prints it: 2004.3109 − T·(0.85330 + 0.000217·T), less t·(..).
use Rattle.std.specs.Prelude.{Float}
use Rattle.double.specs.rules.Operations.{◌⊕◌, ◌⊖◌, ◌⊗◌}
use Rattle.quantity.specs.declared.Deg.{Deg}
use Rattle.quantity.specs.rules.Angle.{deg}
use Rattle.helpers.specs.rules.Angle.{arc}
use Rattle.precess_angles.specs.rules.Numbers.{n0·000217, n2004·3109, n0·8533, n0·42665, n0·041833}

abbrev pub theta_printed : Float → Float → Deg
theta_printed c t =
    let y = c ⊗ arc n0·000217 in
    deg (t ⊗ ((arc n2004·3109 ⊖ c ⊗ (arc n0·8533 ⊕ y)) ⊖ t ⊗ ((arc n0·42665 ⊕ y) ⊕ t ⊗ arc n0·041833)))
