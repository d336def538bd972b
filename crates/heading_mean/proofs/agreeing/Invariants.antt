use mathlib.Core.Path.{◌≡◌}
use Prim.Native.Nat.{◌+◌, ◌≤◌}
use lib.ListN.{drop}
use Rattle.heading_mean.specs.rules.Reference.{agreeing}
use Rattle.heading_mean.proofs.agreeing.Given as goal

abbrev pub invariant-loop-b : goal.invariant-loop-b
invariant-loop-b l = (l.count ≤ l.b-index) × (l.count + agreeing l.fn.reference (drop l.b-index l.headings) ≡ agreeing l.fn.reference l.headings)
