-- `text_headings::put_rows` meets its contract.
use Rattle.lent.specs.laws.Walk.{begun, passed}
use Rattle.text_headings.proofs.put_rows.Goals as goal

pub loop-i-init : goal.loop-i-init
loop-i-init c = begun c.within-offset.ensures

pub loop-i-preserved : goal.loop-i-preserved
loop-i-preserved c =
    passed c.loop-i.invariant c.loop-i-test.true c.put_row_at-offset.ensures
