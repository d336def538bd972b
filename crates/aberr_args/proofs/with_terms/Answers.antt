-- `aberr_args::with_terms` meets its contract.
use Prim.Native.Nat.{ℕ}
use mathlib.Core.Bool.{true}
use mathlib.Core.Path.{◌≡◌, ap, ◌∙◌}
use lib.Dec.{eqb}
use Rattle.aberr_args.specs.laws.Written.{still_written}
use Rattle.aberr_args.proofs.with_terms.Goals as goal

pub returns-then-n-eq0 : goal.returns-then-n-eq0
returns-then-n-eq0 c =
    let a = c.args in
    let none : eqb a.x.7 0 ≡ true = ap (λ (n : ℕ). eqb n 0) c.if-n-eq0.true in
    c.added.ensures ∙ still_written a.x _ a.q _ _ _ _ none

pub returns : goal.returns
returns c = c.added-2.ensures
