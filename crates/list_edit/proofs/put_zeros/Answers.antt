-- `list_edit::put_zeros` meets its contract.
use native.Mathlib.Omega.{arith}
use Prim.Native.Nat.{ℕ, ◌-◌}
use mathlib.Core.Path.{ap, ◌∙◌}
use lib.ListN.{length, length-drop, drop, replicate}
use Rattle.std.proofs.Common.{length-take-le}
use Rattle.lent.specs.laws.Writing.{length_kept}
use Rattle.list_edit.specs.laws.Passes.{filled}
use Rattle.list_edit.proofs.put_zeros.Goals as goal

pub returns : goal.returns
returns c =
    let out = c.args.out.now in
    let start = c.within-start.result in
    let zeros = c.fill.ensures.after (λ y h. h) in
    let size = length-take-le (length out - start) (drop start out) (omega (arith, length-drop start out)) in
    let w = filled out c.args.at start _ c.within-start.ensures (zeros ∙ ap (λ (n : ℕ). replicate {A = ℕ} n 0) size) in
    record { text = w.text; offset = length_kept w ∙ w.offset }
