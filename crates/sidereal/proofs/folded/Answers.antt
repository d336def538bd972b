-- `sidereal::folded` meets its contract: what lies within the turn is folded to itself.
use mathlib.Core.Path.{sym, subst}
use lib.Dec.{T}
use Rattle.sidereal.specs.laws.Fold.{folded_to_itself}
use Rattle.sidereal.proofs.folded.Goals as goal

pub returns-then-x-2 : goal.returns-then-x-2
returns-then-x-2 c =
    folded_to_itself _ (subst T (sym c.well_formed.0.1) tt) (subst T (sym c.if-x.true) tt) (subst T (sym c.if-x-2.true) tt)
