-- `rotation_list::rotate` meets its contract: before each pass the stars so far are stored and counted, and the sines and cosines of the
-- next two are ready; a pass does two more.
use Rattle.std.proofs.Common.{rules}
use mathlib.Core.Path.{sym, subst}
use mathlib.Core.List.{List}
use Prim.Native.Nat.{ℕ, ◌<◌}
use native.Mathlib.Omega.{arith}
use Rattle.std.specs.Prelude.{Float, length, Result, ◌≡◌}
use Rattle.quantity.specs.declared.Refusal.{Refusal}
use Rattle.list_tally.specs.declared.Tally.{Tally}
use Rattle.star_store.specs.rules.Stored.{store_refusal, answers_by}
use Rattle.star_store.specs.notions.StarStored.{Begun}
use Rattle.star_store.specs.laws.StarStored.{few_stars, no_star_stored, places_there, one_star_stored, all_stars_stored, refused_stores_nothing}
use Rattle.rotation.specs.rules.Matrix.{Matrix}
use Rattle.rotation_list.specs.rules.Rotate.{rotated_star, Rotated}
use Rattle.rotation_list.specs.laws.Star.{known_rotated}
use Rattle.rotation_list.specs.laws.Turned.{next_aimed, first_turned, second_turned}
use Rattle.rotation_list.proofs.rotate.Goals as goal

pub returns-in_err-store_refusal : goal.returns-in_err-store_refusal
returns-in_err-store_refusal c =
    let a = c.args in
    subst (λ (r : Result Tally Refusal). Rotated a.edition a.bytes.now a.day1 a.day2 a.status.now a.asc.now a.dec.now r a.status.now a.asc.now a.dec.now)
    (search rules)
    (refused_stores_nothing a.bytes.now a.day1 a.day2 a.status.now a.asc.now a.dec.now _ c.in_err-store_refusal.ensures)

-- a call that was accepted, under its rotation, after its years
begun : (s : List ℕ) (day1 day2 : Float) (status asc dec : List ℕ) (m : Matrix) (years : Float)
    → store_refusal s day1 day2 (length status) (length asc) (length dec) ≡ 0 → Begun (rotated_star m years) s day1 day2 status asc dec
begun s day1 day2 status asc dec m years none = record { none = none; known = known_rotated m years }

-- what a store asks, clause by clause
in_slices : {i n s a d : ℕ} → (i < n) × ((i < s) × ((i < a) × (i < d)))
    → record { i_lt_most_stars : i < n; i_in_bounds : i < s; i_in_bounds_2 : i < a; i_in_bounds_3 : i < d }
in_slices p = record { i_lt_most_stars = p.0; i_in_bounds = p.1.0; i_in_bounds_2 = p.1.1.0; i_in_bounds_3 = p.1.1.1 }

pub loop-i-init : goal.loop-i-init
loop-i-init c =
    let a = c.args in (
      search rules,
      (
        c.count-n.ensures,
        (
          no_star_stored (begun a.bytes.now a.day1 a.day2 a.status.now a.asc.now a.dec.now c.rotation_of-m.result c.years_between-years.result (sym c.in_ok-store_refusal.ensures)) _ c.new-tally.ensures,
          next_aimed _ _ _ _ c.two_turned-t.ensures c.nth.ensures c.nth-2.ensures,
        ),
      ),
    )

pub overflow_add-i : goal.overflow_add-i
overflow_add-i c =
    let a = c.args in
    omega (arith, c.loop-i.invariant.0, c.loop-i.invariant.1.0, few_stars (begun a.bytes.now a.day1 a.day2 a.status.now a.asc.now a.dec.now c.rotation_of-m.result c.years_between-years.result (sym c.in_ok-store_refusal.ensures)))

pub overflow_add-j : goal.overflow_add-j
overflow_add-j c =
    let a = c.args in
    omega (arith, c.loop-i-test.true, c.loop-i.invariant.0, c.loop-i.invariant.1.0, few_stars (begun a.bytes.now a.day1 a.day2 a.status.now a.asc.now a.dec.now c.rotation_of-m.result c.years_between-years.result (sym c.in_ok-store_refusal.ensures)))

pub overflow_add-k : goal.overflow_add-k
overflow_add-k c =
    let a = c.args in
    omega (arith, c.loop-i-test.true, c.loop-i.invariant.0, c.loop-i.invariant.1.0, few_stars (begun a.bytes.now a.day1 a.day2 a.status.now a.asc.now a.dec.now c.rotation_of-m.result c.years_between-years.result (sym c.in_ok-store_refusal.ensures)))

pub overflow_add-k-in-loop-i : goal.overflow_add-k-in-loop-i
overflow_add-k-in-loop-i c =
    let a = c.args in
    omega (arith, c.loop-i-test.true, c.loop-i.invariant.0, c.loop-i.invariant.1.0, few_stars (begun a.bytes.now a.day1 a.day2 a.status.now a.asc.now a.dec.now c.rotation_of-m.result c.years_between-years.result (sym c.in_ok-store_refusal.ensures)))

pub store_star_in-requires : goal.store_star_in-requires
store_star_in-requires c =
    let a = c.args in
    in_slices (places_there (begun a.bytes.now a.day1 a.day2 a.status.now a.asc.now a.dec.now c.rotation_of-m.result c.years_between-years.result (sym c.in_ok-store_refusal.ensures)) c.loop-i.invariant.1.1.0 _ (omega (arith, c.loop-i-test.true, c.loop-i.invariant.1.0)))

pub store_star_in-requires-in-loop-i : goal.store_star_in-requires-in-loop-i
store_star_in-requires-in-loop-i c =
    let a = c.args in
    let b = begun a.bytes.now a.day1 a.day2 a.status.now a.asc.now a.dec.now c.rotation_of-m.result c.years_between-years.result (sym c.in_ok-store_refusal.ensures) in
    let stored = one_star_stored b c.loop-i.invariant.1.1.0 (omega (arith, c.loop-i-test.true, c.loop-i.invariant.1.0))
    (first_turned _ c.loop-i.invariant.1.1.1 _ _ c.two_turned-t-in-loop-i.ensures c.earlier.ensures)
    c.store_star_in.ensures in
    in_slices (places_there b stored _ (omega (arith, c.loop-i-test.true, c.loop-i.invariant.1.0)))

pub loop-i-smaller : goal.loop-i-smaller
loop-i-smaller c = omega (arith, c.loop-i-test.true)

pub loop-i-preserved : goal.loop-i-preserved
loop-i-preserved c =
    let a = c.args in
    let b = begun a.bytes.now a.day1 a.day2 a.status.now a.asc.now a.dec.now c.rotation_of-m.result c.years_between-years.result (sym c.in_ok-store_refusal.ensures) in
    let stored = one_star_stored b c.loop-i.invariant.1.1.0 (omega (arith, c.loop-i-test.true, c.loop-i.invariant.1.0))
    (first_turned _ c.loop-i.invariant.1.1.1 _ _ c.two_turned-t-in-loop-i.ensures c.earlier.ensures)
    c.store_star_in.ensures in (
      omega (arith, c.loop-i-test.true),
      (
        c.loop-i.invariant.1.0,
        (
          one_star_stored b stored (omega (arith, c.loop-i-test.true, c.loop-i.invariant.1.0))
              (second_turned _ c.loop-i.invariant.1.1.1 _ _ c.two_turned-t-in-loop-i.ensures c.earlier-in-loop-i.ensures)
              c.store_star_in-in-loop-i.ensures,
          next_aimed _ _ _ _ c.two_turned-t-in-loop-i.ensures c.nth-in-loop-i.ensures c.nth-in-loop-i-2.ensures,
        ),
      ),
    )

pub store_star_in-requires-then-i-n : goal.store_star_in-requires-then-i-n
store_star_in-requires-then-i-n c =
    let a = c.args in
    in_slices (places_there (begun a.bytes.now a.day1 a.day2 a.status.now a.asc.now a.dec.now c.rotation_of-m.result c.years_between-years.result (sym c.in_ok-store_refusal.ensures)) c.loop-i.invariant.1.1.0 _ (omega (arith, c.if-i-n.true, c.loop-i.invariant.1.0)))

pub shape_of-status-then-i-n : goal.shape_of-status-then-i-n
shape_of-status-then-i-n c =
    let a = c.args in
    let b = begun a.bytes.now a.day1 a.day2 a.status.now a.asc.now a.dec.now c.rotation_of-m.result c.years_between-years.result (sym c.in_ok-store_refusal.ensures) in
    let stored = one_star_stored b c.loop-i.invariant.1.1.0 (omega (arith, c.if-i-n.true, c.loop-i.invariant.1.0))
    (first_turned _ c.loop-i.invariant.1.1.1 _ _ c.two_turned-last.ensures c.earlier-then-i-n.ensures)
    c.store_star_in-then-i-n.ensures in
    stored.statuses.long

pub shape_of-asc-then-i-n : goal.shape_of-asc-then-i-n
shape_of-asc-then-i-n c =
    let a = c.args in
    let b = begun a.bytes.now a.day1 a.day2 a.status.now a.asc.now a.dec.now c.rotation_of-m.result c.years_between-years.result (sym c.in_ok-store_refusal.ensures) in
    let stored = one_star_stored b c.loop-i.invariant.1.1.0 (omega (arith, c.if-i-n.true, c.loop-i.invariant.1.0))
    (first_turned _ c.loop-i.invariant.1.1.1 _ _ c.two_turned-last.ensures c.earlier-then-i-n.ensures)
    c.store_star_in-then-i-n.ensures in
    stored.ascs.long

pub shape_of-dec-then-i-n : goal.shape_of-dec-then-i-n
shape_of-dec-then-i-n c =
    let a = c.args in
    let b = begun a.bytes.now a.day1 a.day2 a.status.now a.asc.now a.dec.now c.rotation_of-m.result c.years_between-years.result (sym c.in_ok-store_refusal.ensures) in
    let stored = one_star_stored b c.loop-i.invariant.1.1.0 (omega (arith, c.if-i-n.true, c.loop-i.invariant.1.0))
    (first_turned _ c.loop-i.invariant.1.1.1 _ _ c.two_turned-last.ensures c.earlier-then-i-n.ensures)
    c.store_star_in-then-i-n.ensures in
    stored.decs.long

pub returns-then-i-n : goal.returns-then-i-n
returns-then-i-n c =
    let a = c.args in
    let b = begun a.bytes.now a.day1 a.day2 a.status.now a.asc.now a.dec.now c.rotation_of-m.result c.years_between-years.result (sym c.in_ok-store_refusal.ensures) in
    let stored = one_star_stored b c.loop-i.invariant.1.1.0 (omega (arith, c.if-i-n.true, c.loop-i.invariant.1.0))
    (first_turned _ c.loop-i.invariant.1.1.1 _ _ c.two_turned-last.ensures c.earlier-then-i-n.ensures)
    c.store_star_in-then-i-n.ensures in
    all_stars_stored b stored
    (λ j. answers_by (rotated_star (c.rotation_of-m.ensures j) (c.years_between-years.ensures j)) a.bytes.now)
    (omega (arith, c.loop-i-test.false, c.if-i-n.true, c.loop-i.invariant.1.0))

pub shape_of-status-else-i-n : goal.shape_of-status-else-i-n
shape_of-status-else-i-n c = c.loop-i.invariant.1.1.0.statuses.long

pub shape_of-asc-else-i-n : goal.shape_of-asc-else-i-n
shape_of-asc-else-i-n c = c.loop-i.invariant.1.1.0.ascs.long

pub shape_of-dec-else-i-n : goal.shape_of-dec-else-i-n
shape_of-dec-else-i-n c = c.loop-i.invariant.1.1.0.decs.long

pub returns-else-i-n : goal.returns-else-i-n
returns-else-i-n c =
    let a = c.args in
    all_stars_stored (begun a.bytes.now a.day1 a.day2 a.status.now a.asc.now a.dec.now c.rotation_of-m.result c.years_between-years.result (sym c.in_ok-store_refusal.ensures)) c.loop-i.invariant.1.1.0
    (λ j. answers_by (rotated_star (c.rotation_of-m.ensures j) (c.years_between-years.ensures j)) a.bytes.now)
    (omega (arith, c.if-i-n.false, c.loop-i.invariant.0, c.loop-i.invariant.1.0))
