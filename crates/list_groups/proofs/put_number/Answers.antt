-- `list_groups::put_number` meets its contract: the groups written so far, and those of what is left.
use native.Mathlib.Omega.{arith}
use Rattle.lent.specs.laws.Writing.{length_kept}
use Rattle.list_groups.proofs.Writing.{begin, step, finish}
use Rattle.list_groups.proofs.put_number.Goals as goal

pub loop-rest-init : goal.loop-rest-init
loop-rest-init c = begin _ _ _ _ (omega arith) c.within-offset.ensures

pub loop-rest-preserved : goal.loop-rest-preserved
loop-rest-preserved c =
    step _ _ _ c.loop-rest.out c.loop-rest.offset c.loop-rest.rest c.loop-rest.invariant _ _ (omega arith) c.put_byte-offset.ensures

pub shape_of-out : goal.shape_of-out
shape_of-out c =
    length_kept (finish _ _ _ c.loop-rest.out c.loop-rest.offset c.loop-rest.rest c.loop-rest.invariant _ _ (omega arith) c.put_byte.ensures)

pub returns : goal.returns
returns c =
    finish _ _ _ c.loop-rest.out c.loop-rest.offset c.loop-rest.rest c.loop-rest.invariant _ _ (omega arith) c.put_byte.ensures
