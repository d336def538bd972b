-- `report_mean::first_refused` meets its contract.
use mathlib.Core.Path.{◌∙◌}
use native.Mathlib.Omega.{arith}
use Rattle.report_mean.specs.laws.Refused.{refused_here, refused_next, refused_none}
use Rattle.report_mean.proofs.first_refused.Goals as goal

pub returns-then-status-i-ne0 : goal.returns-then-status-i-ne0
returns-then-status-i-ne0 c =
    let s = c.args.status.now in
    omega (arith, refused_here s c.loop-i.i c.loop-i-test.true c.if-status-i-ne0.true, c.loop-i.invariant.1)

pub loop-i-preserved : goal.loop-i-preserved
loop-i-preserved c =
    let s = c.args.status.now in (
      omega (arith, c.loop-i-test.true),
      refused_next s c.loop-i.i c.loop-i-test.true c.if-status-i-ne0.false ∙ c.loop-i.invariant.1,
    )

pub returns : goal.returns
returns c =
    let s = c.args.status.now in
    omega (arith, refused_none s c.loop-i.i (omega (arith, c.loop-i-test.false)), c.loop-i.invariant.1)
