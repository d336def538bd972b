-- `text_measured::read_sights` meets its contract: before each pass the sights so far are stored, and the others are left.
use mathlib.Core.Path.{◌≡◌, subst}
use Rattle.std.specs.Prelude.{Result}
use borrow.Author.Rules.{rules}
use Prim.Native.Nat.{ℕ, ◌+◌, ◌≤◌}
use native.Mathlib.Omega.{arith}
use lib.ListN.{length}
use mathlib.Core.List.{List}
use Rattle.text_fields.specs.declared.Stopped.{Stopped}
use Rattle.text_fields.specs.laws.Walk.{lines_left, unclear_line_lem, lines_read, lines_some}
use Rattle.text_fields.specs.laws.Stored.{at_unclear, at_no_more, at_full, one_stored}
use Rattle.text_measured.specs.rules.Sights.{ReadSights}
use Rattle.text_measured.proofs.read_sights.Goals as goal

-- a call that ends with so many places ends as promised
promised : {places k : ℕ} {text line0 star0 asc0 dec0 : List ℕ} {r : Result ℕ Stopped} {line star asc dec : List ℕ} → places ≡ k
    → ReadSights places text line0 star0 asc0 dec0 r line star asc dec → ReadSights k text line0 star0 asc0 dec0 r line star asc dec
promised {text = text} {line0 = line0} {star0 = star0} {asc0 = asc0} {dec0 = dec0} {r = r} {line = line} {star = star} {asc = asc} {dec = dec} e h =
    subst (λ (k : ℕ). ReadSights k text line0 star0 asc0 dec0 r line star asc dec) e h

pub returns-then-n-places : goal.returns-then-n-places
returns-then-n-places c =
    promised c.fewest-places.ensures (at_full c.loop-met.invariant _ _ c.in-Ok-Some.met.next (rw c.in-Ok-Some.field-0-is at c.in-Ok-Some.ensures) c.if-n-places.true)

pub overflow_add-passed : goal.overflow_add-passed
overflow_add-passed c =
    let w = c.loop-met.invariant.walked in
    let left = lines_left w in
    let read = lines_read w _ _ c.in-Ok-Some.met.next (rw c.in-Ok-Some.field-0-is at c.in-Ok-Some.ensures) in
    let short : c.loop-met.passed + c.in-Ok-Some.met.passed ≤ length c.args.text.now = omega arith in
    search rules

pub loop-met-smaller : goal.loop-met-smaller
loop-met-smaller c =
    let w = c.loop-met.invariant.walked in
    omega (arith, lines_read w _ _ c.in-Ok-Some.met.next (rw c.in-Ok-Some.field-0-is at c.in-Ok-Some.ensures), lines_some w _ _ c.in-Ok-Some.met.next (rw c.in-Ok-Some.field-0-is at c.in-Ok-Some.ensures))

pub loop-met-preserved : goal.loop-met-preserved
loop-met-preserved c =
    one_stored c.loop-met.invariant _ _ c.in-Ok-Some.met.next (rw c.in-Ok-Some.field-0-is at c.in-Ok-Some.ensures) (omega (arith, c.if-n-places.false)) c.store_sight.ensures

-- a line cannot be read
pub overflow_add-result : goal.overflow_add-result
overflow_add-result c =
    let w = c.loop-met.invariant.walked in
    let left = lines_left w in
    let line = unclear_line_lem w _ c.in-Err.ensures in
    let short : c.loop-met.passed + c.in-Err.field-0.0 ≤ length c.args.text.now = omega arith in
    search rules

pub returns-in-Err : goal.returns-in-Err
returns-in-Err c = promised c.fewest-places.ensures (at_unclear c.loop-met.invariant _ c.in-Err.ensures)

pub returns-in-Ok-None : goal.returns-in-Ok-None
returns-in-Ok-None c = promised c.fewest-places.ensures (at_no_more c.loop-met.invariant (rw c.in-Ok-None.field-0-is at c.in-Ok-None.ensures))
