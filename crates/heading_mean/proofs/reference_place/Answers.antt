-- `heading_mean::reference_place` meets its contract.
use mathlib.Core.Path.{sym, ◌∙◌}
use native.Mathlib.Omega.{arith}
use Rattle.heading_mean.specs.laws.Reference.{reference_here, reference_next, reference_none}
use Rattle.heading_mean.proofs.reference_place.Goals as goal

pub returns-then-is_reference : goal.returns-then-is_reference
returns-then-is_reference c =
    let s = c.args.headings.now in
    let i = c.loop-i.i in
    omega (arith, reference_here s s i c.loop-i-test.true (sym c.is_reference.ensures ∙ c.if-is_reference.true), c.loop-i.invariant)

pub loop-i-preserved : goal.loop-i-preserved
loop-i-preserved c =
    let s = c.args.headings.now in
    let i = c.loop-i.i in
    reference_next s s i c.loop-i-test.true (sym c.is_reference.ensures ∙ c.if-is_reference.false) ∙ c.loop-i.invariant

pub returns : goal.returns
returns c =
    let s = c.args.headings.now in
    omega (arith, reference_none s s c.loop-i.i c.loop-i-test.false, c.loop-i.invariant)
