-- `elementary_arc::lesser_over` meets its contract.
use mathlib.Core.Path.{◌≡◌, refl}
use mathlib.Core.Bool.{Bool, true, false, cond}
use lib.Ieee.{Float, le}
use Rattle.double.specs.rules.Operations.{◌⊘◌}
use Rattle.elementary_arc.proofs.lesser_over.Goals as goal

joined : (b : Bool) (y x : Float) → cond b y x ⊘ cond b x y ≡ cond b (y ⊘ x) (x ⊘ y)
joined true y x = refl
joined false y x = refl

pub returns : goal.returns
returns c =
    let a = c.args in
    rw (c.either-2.ensures, c.either.ensures) (joined (le a.y a.x) a.y a.x)
