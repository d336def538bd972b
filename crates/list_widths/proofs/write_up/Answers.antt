-- `list_widths::write_up` meets its contract: after i passes the first i records are written.
use borrow.Author.Rules.{rules}
use native.Mathlib.Omega.{arith}
use mathlib.Core.Path.{ap}
use Rattle.lent.specs.laws.Writing.{same}
use Rattle.lent.specs.laws.Walk.{begun, passed, ended}
use Rattle.list.specs.rules.Record.{star_bytes}
use Rattle.list_widths.proofs.write_up.Goals as goal

pub loop-i-preserved : goal.loop-i-preserved
loop-i-preserved c =
    passed c.loop-i.invariant (omega arith)
    (same (ap star_bytes c.narrow_nth.ensures) c.write_star-offset.ensures)

pub loop-i-init : goal.loop-i-init
loop-i-init c = begun (search rules)

pub returns : goal.returns
returns c = ended c.loop-i.invariant (omega arith)
