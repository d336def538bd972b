-- `report_marks::read_night` meets its contract: before each pass the sights so far are stored, and the others are left.
use mir.Facts.{to_z-of_z}
use mathlib.Core.Path.{◌≡◌}
use mathlib.Core.List.{List}
use borrow.Author.Rules.{rules}
use Prim.Native.Nat.{ℕ, ◌+◌, ◌≤◌}
use native.Mathlib.Omega.{arith}
use Rattle.std.specs.Prelude.{Result}
use lib.IntN.{ℤ}
use lib.ListN.{length}
use Rattle.edition.specs.declared.Edition.{Edition}
use Rattle.text_fields.specs.declared.Stopped.{Stopped}
use Rattle.text_fields.specs.rules.Stored.{EntriesStored}
use Rattle.text_fields.specs.laws.Walk.{lines_left, unclear_line_lem, lines_read, lines_some}
use Rattle.text_fields.specs.laws.Stored.{none_stored, at_unclear, at_no_more, at_full, one_stored}
use Rattle.text_night.specs.rules.Sight.{sight_rule}
use Rattle.text_night.specs.rules.Sights.{entry_of}
use Rattle.report_marks.specs.declared.Pad.{Pad}
use Rattle.report_marks.specs.rules.Marked.{columns}
use Rattle.report_marks.proofs.read_night.Goals as goal

pub loop-met-init : goal.loop-met-init
loop-met-init c = none_stored _ _ _ _ _ _ _ _ _ c.fewest-places.ensures

-- a call that ends with so many places, of a number with a sign as it arrives by its bits, ends as promised
promised : (d dut1 : ℤ) (edition : Edition) (pad : Pad) (bytes : List ℕ) {places k : ℕ} {text line0 star0 status0 bits0 : List ℕ} {r : Result ℕ Stopped} {line star status bits : List ℕ}
    → d ≡ dut1 → places ≡ k
    → EntriesStored (sight_rule d) entry_of (columns edition pad bytes) places text line0 star0 status0 bits0 r line star status bits
    → EntriesStored (sight_rule dut1) entry_of (columns edition pad bytes) k text line0 star0 status0 bits0 r line star status bits
promised d dut1 edition pad bytes p q h = rw (p, q) at h

pub returns-then-n-places : goal.returns-then-n-places
returns-then-n-places c =
    promised _ _ _ _ _ (to_z-of_z c.ranges.dut1) c.fewest-places.ensures
    (at_full c.loop-met.invariant _ _ c.in-Ok-Some.met.next (rw c.in-Ok-Some.field-0-is at c.in-Ok-Some.ensures) c.if-n-places.true)

pub overflow_add-passed : goal.overflow_add-passed
overflow_add-passed c =
    let w = c.loop-met.invariant.walked in
    let left = lines_left w in
    let read = lines_read w _ _ c.in-Ok-Some.met.next (rw c.in-Ok-Some.field-0-is at c.in-Ok-Some.ensures) in
    let short : c.loop-met.passed + c.in-Ok-Some.met.passed ≤ length c.args.text.now = omega arith in
    search rules

pub store_sight-requires : goal.store_sight-requires
store_sight-requires c =
    let u = c.loop-met.invariant in
    let wide = c.fewest-places.ensures in
    record {
      i_in_bounds = omega (arith, wide, u.lines_so_far.long);
      i_in_bounds_2 = omega (arith, wide, u.stars_so_far.long);
      i_in_bounds_3 = omega (arith, wide, u.firsts_so_far.long);
      i_in_bounds_4 = omega (arith, wide, u.seconds_so_far.long);
    }

pub overflow_add-n : goal.overflow_add-n
overflow_add-n c =
    let short : c.loop-met.n + 1 ≤ length c.args.line.now = omega (arith, c.if-n-places.false, c.fewest-places.ensures) in
    search rules

pub loop-met-smaller : goal.loop-met-smaller
loop-met-smaller c =
    let w = c.loop-met.invariant.walked in
    let e = rw c.in-Ok-Some.field-0-is at c.in-Ok-Some.ensures in
    omega (arith, lines_read w _ _ c.in-Ok-Some.met.next e, lines_some w _ _ c.in-Ok-Some.met.next e)

pub loop-met-preserved : goal.loop-met-preserved
loop-met-preserved c =
    one_stored c.loop-met.invariant _ _ c.in-Ok-Some.met.next (rw c.in-Ok-Some.field-0-is at c.in-Ok-Some.ensures) (omega (arith, c.if-n-places.false))
    c.store_sight.ensures

-- a line cannot be read
pub overflow_add-result : goal.overflow_add-result
overflow_add-result c =
    let w = c.loop-met.invariant.walked in
    let left = lines_left w in
    let line = unclear_line_lem w _ c.in-Err.ensures in
    let short : c.loop-met.passed + c.in-Err.field-0.0 ≤ length c.args.text.now = omega arith in
    search rules

pub returns-in-Err : goal.returns-in-Err
returns-in-Err c =
    promised _ _ _ _ _ (to_z-of_z c.ranges.dut1) c.fewest-places.ensures (at_unclear c.loop-met.invariant _ c.in-Err.ensures)

pub returns-in-Ok-None : goal.returns-in-Ok-None
returns-in-Ok-None c =
    promised _ _ _ _ _ (to_z-of_z c.ranges.dut1) c.fewest-places.ensures
    (at_no_more c.loop-met.invariant (rw c.in-Ok-None.field-0-is at c.in-Ok-None.ensures))
