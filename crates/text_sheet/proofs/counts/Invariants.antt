use mathlib.Core.Path.{◌≡◌}
use Prim.Native.Nat.{ℕ, ◌≤◌}
use mathlib.Core.List.{List}
use lib.ListN.{length, take}
use Rattle.list.specs.rules.Stars.{stars, kept}
use Rattle.text_sheet.specs.rules.Sheet.{goods}
use Rattle.text_sheet.proofs.counts.Given as goal

-- of the first i stars, so many are kept, and so many of those in range
pub record Counting (s : List ℕ) (all good i : ℕ) : Type 0 where
  pub all_few : all ≤ i
  pub all_is : all ≡ length (kept (take i (stars s)))
  pub good_few : good ≤ i
  pub good_is : good ≡ goods (kept (take i (stars s)))

abbrev pub invariant-loop-i : goal.invariant-loop-i
invariant-loop-i l = Counting l.bytes l.all l.good l.i
