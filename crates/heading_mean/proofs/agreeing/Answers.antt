-- `heading_mean::agreeing` meets its contract.
use mathlib.Core.Path.{ap, ◌∙◌}
use Prim.Native.Nat.{ℕ, ◌+◌}
use native.Mathlib.Omega.{arith}
use lib.ListN.{drop, get_or}
use Rattle.heading_mean.specs.rules.Reference.{agreeing}
use Rattle.heading_mean.specs.laws.Reference.{vote_within, agreeing_next, agreeing_done}
use Rattle.heading_mean.proofs.agreeing.Goals as goal

pub overflow_add-count : goal.overflow_add-count
overflow_add-count c =
    let a = c.args in
    record {
      fits =
          omega (arith, c.well_formed, c.loop-b-test.true, c.loop-b.invariant.0, c.vote-count.ensures, vote_within a.reference (get_or a.headings.now c.loop-b.b-index 0));
    }

pub loop-b-preserved : goal.loop-b-preserved
loop-b-preserved c =
    let i = c.loop-b.b-index in
    let s = c.args.headings.now in
    let r = c.args.reference in (
      omega (arith, c.loop-b.invariant.0, c.vote-count.ensures, vote_within r (get_or s i 0)),
      ap (λ (n : ℕ). c.loop-b.count + n + agreeing r (drop (i + 1) s)) c.vote-count.ensures
          ∙ agreeing_next r s i c.loop-b.count c.loop-b-test.true
          ∙ c.loop-b.invariant.1,
    )

pub returns : goal.returns
returns c =
    agreeing_done c.args.reference c.args.headings.now c.loop-b.b-index c.loop-b.count c.loop-b-test.false
    ∙ c.loop-b.invariant.1
