-- `elementary_arc::reduced` meets its contract; that the format holds v is what owning an `f64` tells.
use mathlib.Core.Path.{◌≡◌, refl, sym, subst}
use mathlib.Core.Bool.{Bool, true, false, cond}
use lib.Dec.{T}
use lib.Ieee.{Float, binary64, le, fits}
use Rattle.double.specs.rules.Operations.{one, ◌⊕◌, ◌⊖◌, ◌⊘◌}
use Rattle.double.specs.laws.Exact.{over_one}
use Rattle.elementary_arc.specs.rules.Arctangent.{near}
use Rattle.elementary_arc.proofs.reduced.Goals as goal

joined : (b : Bool) (v : Float) → T (fits binary64 v) → cond b v (v ⊖ one) ⊘ cond b one (v ⊕ one) ≡ cond b v ((v ⊖ one) ⊘ (v ⊕ one))
joined true v F = over_one v F
joined false v F = refl

pub returns : goal.returns
returns c =
    rw (c.either-2.ensures, c.either.ensures) (joined (le c.args.v near) c.args.v (subst T (sym c.well_formed.0.1) tt))
