-- `list_moves::lay_stars` meets its contract: the records laid, and the stars that are left.
use native.Mathlib.Omega.{arith}
use Rattle.list_groups.specs.laws.Tails.{found, not_found}
use Rattle.list_radio.specs.rules.Star.{read_star}
use Rattle.list_radio.specs.laws.Star.{star_leaves_tail}
use Rattle.list_moves.proofs.Laying.{begin, stops, ends, on}
use Rattle.list_moves.proofs.lay_stars.Goals as goal

pub loop-init : goal.loop-init
loop-init c = begin _ _ _ _ _

pub returns-in_default : goal.returns-in_default
returns-in_default c = stops _ _ _ _ _ _ _ _ _ c.loop.invariant _ (not_found (read_star _) _ _ _ c.in_default.ensures)

pub loop-preserved : goal.loop-preserved
loop-preserved c =
    on _ _ _ _ _ _ _ _ _ c.loop.invariant _ _ _ _ (omega arith)
    (found (read_star _) _ _ (star_leaves_tail _) _ _ c.in-Ok.ensures).read_so
    c.write_star-offset.ensures

pub returns : goal.returns
returns c = ends _ _ _ _ _ _ _ _ _ c.loop.invariant (omega arith)
