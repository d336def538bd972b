-- `report_residuals::match_sights` meets its contract.
use Prim.Native.Nat.{ℕ, ◌<◌}
use mathlib.Core.List.{List}
use Rattle.lent.specs.notions.Rows.{Row}
use native.Mathlib.Omega.{arith}
use lib.ListN.{length}
use Rattle.report_residuals.specs.laws.Matched.{none_matched, one_matched, all_matched}
use Rattle.report_residuals.proofs.match_sights.Lts as lts
use Rattle.report_residuals.proofs.match_sights.Reads as reads
use Rattle.report_residuals.proofs.match_sights.Tie as tie
use Rattle.report_residuals.proofs.match_sights.Goals as goal

pub loop-i-init : goal.loop-i-init
loop-i-init c =
    let pre = c.requires in
    none_matched _ _ _ _ _ pre.star_in_bounds pre.star_in_bounds_2 pre.star_in_bounds_3

-- each sight has its place
module _ (c : (lts.After-came_to tie.the-claims reads.Pre reads.Post goal.the-invariant-loop-i goal.the-decreases-loop-i tie.handed_clauses)) where
  inside : {new old cur : List ℕ} → Row new old cur (length c.args.star.now) c.loop-i.i → c.loop-i.i < length cur
  inside r = omega (arith, r.room, r.long, c.loop-i-test.true)

pub bounds-sight_status-i : goal.bounds-sight_status-i
bounds-sight_status-i c = inside c.before c.loop-i.invariant.statuses

pub bounds-sight_asc-i : goal.bounds-sight_asc-i
bounds-sight_asc-i c = inside c.before c.loop-i.invariant.ascs

pub bounds-sight_dec-i : goal.bounds-sight_dec-i
bounds-sight_dec-i c = inside c.before c.loop-i.invariant.decs

pub loop-i-preserved : goal.loop-i-preserved
loop-i-preserved c = one_matched _ _ _ _ _ c.loop-i.invariant c.loop-i-test.true _ c.came_to-came.ensures

pub returns : goal.returns
returns c = all_matched _ _ _ _ _ c.loop-i.invariant c.loop-i-test.false
