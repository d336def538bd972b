-- `list_tally::Tally::raise` meets its contract: one store raises the count, or leaves all as it is.
use borrow.Author.Rules.{rules}
use Prim.Native.Nat.{ℕ, ◌<◌}
use mathlib.Core.Path.{◌≡◌}
use native.Mathlib.Omega.{arith}
use Rattle.quantity.specs.laws.Answer.{named_checked}
use Rattle.list_tally.specs.rules.Tally.{counts_in_all, count_of}
use Rattle.list_tally.specs.laws.Tally.{count_below, stored_raises}
use Rattle.list_tally.proofs.Tally.raise.Goals as goal

index : (status k : ℕ) → k ≡ count_of status → k < counts_in_all
index status k e = omega (arith, e, count_below status)

pub offset_bounds-tally-k : goal.offset_bounds-tally-k
offset_bounds-tally-k c = omega (arith, index c.args.status _ c.count_of-k.ensures)

pub bounds-tally-k : goal.bounds-tally-k
bounds-tally-k c = search (rules, index c.args.status _ c.count_of-k.ensures)

pub offset_bounds-tally-k-2 : goal.offset_bounds-tally-k-2
offset_bounds-tally-k-2 c = omega (arith, index c.args.status _ c.count_of-k.ensures)

pub bounds-tally-k-2 : goal.bounds-tally-k-2
bounds-tally-k-2 c = search (rules, index c.args.status _ c.count_of-k.ensures)

pub returns : goal.returns
returns c =
    rw (c.count_after.ensures, ← named_checked c.refusal_at-check.result, c.refusal_at-check.ensures, c.count_of-k.ensures)
    (stored_raises c.args.self c.args.status)
