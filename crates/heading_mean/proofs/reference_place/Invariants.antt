use mathlib.Core.Path.{◌≡◌}
use Prim.Native.Nat.{◌+◌}
use lib.ListN.{drop}
use Rattle.heading_mean.specs.rules.Reference.{first_reference, reference_place}
use Rattle.heading_mean.proofs.reference_place.Given as goal

abbrev pub invariant-loop-i : goal.invariant-loop-i
invariant-loop-i l = l.i + first_reference l.headings (drop l.i l.headings) ≡ reference_place l.headings
