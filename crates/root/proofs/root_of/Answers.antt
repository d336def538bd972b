-- `root::root_of` meets its contract: what is not at most the greatest double is not finite.
use Rattle.std.proofs.Common.{◌≡◌, Bool, true, false, cond, T, sym, refl, subst}
use lib.Ieee.{Float, lt}
use Rattle.double.specs.rules.Operations.{zero}
use Rattle.root.specs.rules.Root.{root_of}
use Rattle.root.specs.laws.Tests.{infinite_tested}
use Rattle.root.proofs.root_of.Goals as goal

-- where x is not finite it is answered as it came
either : (t : Bool) (x : Float) → x ≡ cond t x x
either true x = refl
either false x = refl

pub returns-then-x : goal.returns-then-x
unfolding root_of
returns-then-x c =
    let x = c.args.x in
    rw (infinite_tested x (subst T (sym c.well_formed.0.1) tt) c.if-x-2.false) (either (lt zero x) x)

pub returns : goal.returns
unfolding root_of
returns c = rw c.if-x-3.false
