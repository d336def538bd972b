-- `heading_mean::running_from` meets its contract.
use mathlib.Core.Path.{◌≡◌, refl, sym, ap, subst, ◌∙◌}
use Prim.Native.Nat.{ℕ}
use native.Mathlib.Omega.{arith}
use lib.ListN.{length}
use Rattle.lent.specs.rules.Rows.{upto}
use Rattle.residual_sheet.specs.rules.Running.{running_of, AtMost}
use Rattle.residual_sheet.specs.laws.Running.{entry_more}
use Rattle.heading_mean.specs.rules.Mean.{entry_from}
use Rattle.heading_mean.specs.laws.Grown.{first_at_most}
use Rattle.heading_mean.proofs.running_from.Goals as goal

pub loop-i-init : goal.loop-i-init
unfolding running_of
loop-i-init c = refl

pub loop-i-preserved : goal.loop-i-preserved
unfolding entry_from
loop-i-preserved c =
    rw (c.residual_from-x.ensures, c.of_pattern.ensures, c.loop-i.invariant) at c.onward-r.ensures
    ∙ entry_more c.loop-i.i (entry_from c.args.reference c.args.headings.now)

pub onward-r-requires : goal.onward-r-requires
onward-r-requires c =
    let i = c.loop-i.i in
    subst (AtMost i) (sym c.loop-i.invariant)
    (first_at_most c.args.reference c.args.headings.now i (omega (arith, c.loop-i-test.true, c.requires)))

pub returns : goal.returns
returns c =
    let i : c.loop-i.i ≡ length c.args.headings.now = omega (arith, c.loop-i-test.false) in
    c.loop-i.invariant ∙ ap (λ (n : ℕ). running_of (upto n (entry_from c.args.reference c.args.headings.now))) i
