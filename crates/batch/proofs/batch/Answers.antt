-- `batch::batch` meets its contract: before each pass the stars so far are stored and counted, and a pass does two more.
use Rattle.std.proofs.Common.{rules}
use mathlib.Core.Path.{◌≡◌, sym, ap, subst, ◌∙◌}
use mathlib.Core.List.{List}
use Prim.Native.Nat.{ℕ, ◌<◌}
use native.Mathlib.Omega.{arith}
use Rattle.std.specs.Prelude.{Float, length, Result}
use Rattle.quantity.specs.rules.Answer.{first_place, second_place}
use Rattle.quantity.specs.declared.Refusal.{Refusal}
use Rattle.list_tally.specs.declared.Tally.{Tally}
use Rattle.edition.specs.declared.Edition.{Edition}
use Rattle.chain.specs.declared.Night.{Night}
use Rattle.chain.specs.rules.Night.{night_of}
use Rattle.star_store.specs.rules.Stored.{store_refusal}
use Rattle.star_store.specs.notions.StarStored.{Begun}
use Rattle.star_store.specs.laws.StarStored.{allowed, few_stars, no_star_stored, places_there, one_star_stored, all_stars_stored, refused_stores_nothing}
use Rattle.batch.specs.rules.Batch.{Batch}
use Rattle.batch.specs.notions.Under.{under}
use Rattle.batch.specs.laws.Known.{known_under}
use Rattle.batch.specs.laws.Star.{first_star, second_star, answers_under_a_night}
use Rattle.batch.proofs.batch.Goals as goal

pub returns-in_err-store_refusal : goal.returns-in_err-store_refusal
returns-in_err-store_refusal c =
    let a = c.args in
    subst (λ (r : Result Tally Refusal). Batch a.edition a.bytes.now a.day1 a.day2 a.status.now a.asc.now a.dec.now r a.status.now a.asc.now a.dec.now)
    (search rules)
    (refused_stores_nothing a.bytes.now a.day1 a.day2 a.status.now a.asc.now a.dec.now _ c.in_err-store_refusal.ensures)

-- a call that was accepted, under its night, after its years
begun : (edition : Edition) (s : List ℕ) (day1 day2 : Float) (status asc dec : List ℕ) {night : Night Refusal} (years : Float)
    → store_refusal s day1 day2 (length status) (length asc) (length dec) ≡ 0 → night ≡ night_of edition day1 day2
    → Begun (under night years) s day1 day2 status asc dec
begun edition s day1 day2 status asc dec years none e =
    record { none = none; known = λ star. rw e (known_under edition star day1 day2 years) }

-- what a store asks, clause by clause
in_slices : {i n s a d : ℕ} → (i < n) × ((i < s) × ((i < a) × (i < d)))
    → record { i_lt_most_stars : i < n; i_in_bounds : i < s; i_in_bounds_2 : i < a; i_in_bounds_3 : i < d }
in_slices p = record { i_lt_most_stars = p.0; i_in_bounds = p.1.0; i_in_bounds_2 = p.1.1.0; i_in_bounds_3 = p.1.1.1 }

pub loop-i-init : goal.loop-i-init
loop-i-init c =
    let a = c.args in
    (search rules, (c.count-n.ensures, no_star_stored (begun a.edition a.bytes.now a.day1 a.day2 a.status.now a.asc.now a.dec.now c.years_between-years.result (sym c.in_ok-store_refusal.ensures) c.night_of-night.ensures) _ c.new-tally.ensures))

pub overflow_add-i : goal.overflow_add-i
overflow_add-i c =
    let a = c.args in
    omega (arith, c.loop-i.invariant.0, c.loop-i.invariant.1.0, few_stars (begun a.edition a.bytes.now a.day1 a.day2 a.status.now a.asc.now a.dec.now c.years_between-years.result (sym c.in_ok-store_refusal.ensures) c.night_of-night.ensures))

pub overflow_add-j : goal.overflow_add-j
overflow_add-j c =
    let a = c.args in
    omega (arith, c.loop-i-test.true, c.loop-i.invariant.1.0, few_stars (begun a.edition a.bytes.now a.day1 a.day2 a.status.now a.asc.now a.dec.now c.years_between-years.result (sym c.in_ok-store_refusal.ensures) c.night_of-night.ensures))

pub store_star-tally-requires : goal.store_star-tally-requires
store_star-tally-requires c =
    let a = c.args in
    in_slices (places_there (begun a.edition a.bytes.now a.day1 a.day2 a.status.now a.asc.now a.dec.now c.years_between-years.result (sym c.in_ok-store_refusal.ensures) c.night_of-night.ensures) c.loop-i.invariant.1.1 _ (omega (arith, c.loop-i-test.true, c.loop-i.invariant.1.0)))

pub store_star-tally-requires-in-loop-i : goal.store_star-tally-requires-in-loop-i
store_star-tally-requires-in-loop-i c =
    let a = c.args in
    let b = begun a.edition a.bytes.now a.day1 a.day2 a.status.now a.asc.now a.dec.now c.years_between-years.result (sym c.in_ok-store_refusal.ensures) c.night_of-night.ensures in
    let stored = one_star_stored b c.loop-i.invariant.1.1 (omega (arith, c.loop-i-test.true, c.loop-i.invariant.1.0))
    (ap first_place c.two_stars_under-p.ensures ∙ first_star _ _ _ _ ∙ ap (under c.night_of-night.result c.years_between-years.result) c.nth.ensures)
    c.store_star-tally.ensures in
    in_slices (places_there b stored _ (omega (arith, c.loop-i-test.true, c.loop-i.invariant.1.0)))

pub overflow_add-i-in-loop-i : goal.overflow_add-i-in-loop-i
overflow_add-i-in-loop-i c =
    let a = c.args in
    omega (arith, c.loop-i-test.true, c.loop-i.invariant.1.0, few_stars (begun a.edition a.bytes.now a.day1 a.day2 a.status.now a.asc.now a.dec.now c.years_between-years.result (sym c.in_ok-store_refusal.ensures) c.night_of-night.ensures))

pub loop-i-preserved : goal.loop-i-preserved
loop-i-preserved c =
    let a = c.args in
    let b = begun a.edition a.bytes.now a.day1 a.day2 a.status.now a.asc.now a.dec.now c.years_between-years.result (sym c.in_ok-store_refusal.ensures) c.night_of-night.ensures in
    let stored = one_star_stored b c.loop-i.invariant.1.1 (omega (arith, c.loop-i-test.true, c.loop-i.invariant.1.0))
    (ap first_place c.two_stars_under-p.ensures ∙ first_star _ _ _ _ ∙ ap (under c.night_of-night.result c.years_between-years.result) c.nth.ensures)
    c.store_star-tally.ensures in (
      omega (arith, c.loop-i-test.true),
      (
        c.loop-i.invariant.1.0,
        one_star_stored b stored (omega (arith, c.loop-i-test.true, c.loop-i.invariant.1.0))
            (ap second_place c.two_stars_under-p.ensures ∙ second_star _ _ _ _ ∙ ap (under c.night_of-night.result c.years_between-years.result) c.nth-in-loop-i.ensures)
            c.store_star-tally-in-loop-i.ensures,
      ),
    )

pub store_star-tally-requires-then-i-n : goal.store_star-tally-requires-then-i-n
store_star-tally-requires-then-i-n c =
    let a = c.args in
    in_slices (places_there (begun a.edition a.bytes.now a.day1 a.day2 a.status.now a.asc.now a.dec.now c.years_between-years.result (sym c.in_ok-store_refusal.ensures) c.night_of-night.ensures) c.loop-i.invariant.1.1 _ (omega (arith, c.if-i-n.true, c.loop-i.invariant.1.0)))

pub shape_of-status-then-i-n : goal.shape_of-status-then-i-n
shape_of-status-then-i-n c =
    let a = c.args in
    let b = begun a.edition a.bytes.now a.day1 a.day2 a.status.now a.asc.now a.dec.now c.years_between-years.result (sym c.in_ok-store_refusal.ensures) c.night_of-night.ensures in
    let stored = one_star_stored b c.loop-i.invariant.1.1 (omega (arith, c.if-i-n.true, c.loop-i.invariant.1.0))
    (ap first_place c.two_stars_under-p-then-i-n.ensures ∙ first_star _ _ _ _ ∙ ap (under c.night_of-night.result c.years_between-years.result) c.nth-star.ensures)
    c.store_star-tally-then-i-n.ensures in
    stored.statuses.long

pub shape_of-asc-then-i-n : goal.shape_of-asc-then-i-n
shape_of-asc-then-i-n c =
    let a = c.args in
    let b = begun a.edition a.bytes.now a.day1 a.day2 a.status.now a.asc.now a.dec.now c.years_between-years.result (sym c.in_ok-store_refusal.ensures) c.night_of-night.ensures in
    let stored = one_star_stored b c.loop-i.invariant.1.1 (omega (arith, c.if-i-n.true, c.loop-i.invariant.1.0))
    (ap first_place c.two_stars_under-p-then-i-n.ensures ∙ first_star _ _ _ _ ∙ ap (under c.night_of-night.result c.years_between-years.result) c.nth-star.ensures)
    c.store_star-tally-then-i-n.ensures in
    stored.ascs.long

pub shape_of-dec-then-i-n : goal.shape_of-dec-then-i-n
shape_of-dec-then-i-n c =
    let a = c.args in
    let b = begun a.edition a.bytes.now a.day1 a.day2 a.status.now a.asc.now a.dec.now c.years_between-years.result (sym c.in_ok-store_refusal.ensures) c.night_of-night.ensures in
    let stored = one_star_stored b c.loop-i.invariant.1.1 (omega (arith, c.if-i-n.true, c.loop-i.invariant.1.0))
    (ap first_place c.two_stars_under-p-then-i-n.ensures ∙ first_star _ _ _ _ ∙ ap (under c.night_of-night.result c.years_between-years.result) c.nth-star.ensures)
    c.store_star-tally-then-i-n.ensures in
    stored.decs.long

pub returns-then-i-n : goal.returns-then-i-n
returns-then-i-n c =
    let a = c.args in
    let b = begun a.edition a.bytes.now a.day1 a.day2 a.status.now a.asc.now a.dec.now c.years_between-years.result (sym c.in_ok-store_refusal.ensures) c.night_of-night.ensures in
    let stored = one_star_stored b c.loop-i.invariant.1.1 (omega (arith, c.if-i-n.true, c.loop-i.invariant.1.0))
    (ap first_place c.two_stars_under-p-then-i-n.ensures ∙ first_star _ _ _ _ ∙ ap (under c.night_of-night.result c.years_between-years.result) c.nth-star.ensures)
    c.store_star-tally-then-i-n.ensures in
    all_stars_stored b stored
    (answers_under_a_night a.edition a.bytes.now a.day1 a.day2 (allowed b).days c.night_of-night.ensures c.years_between-years.ensures)
    (omega (arith, c.loop-i-test.false, c.if-i-n.true, c.loop-i.invariant.1.0))

pub shape_of-status-else-i-n : goal.shape_of-status-else-i-n
shape_of-status-else-i-n c = c.loop-i.invariant.1.1.statuses.long

pub shape_of-asc-else-i-n : goal.shape_of-asc-else-i-n
shape_of-asc-else-i-n c = c.loop-i.invariant.1.1.ascs.long

pub shape_of-dec-else-i-n : goal.shape_of-dec-else-i-n
shape_of-dec-else-i-n c = c.loop-i.invariant.1.1.decs.long

pub returns-else-i-n : goal.returns-else-i-n
returns-else-i-n c =
    let a = c.args in
    let b = begun a.edition a.bytes.now a.day1 a.day2 a.status.now a.asc.now a.dec.now c.years_between-years.result (sym c.in_ok-store_refusal.ensures) c.night_of-night.ensures in
    all_stars_stored b c.loop-i.invariant.1.1
    (answers_under_a_night a.edition a.bytes.now a.day1 a.day2 (allowed b).days c.night_of-night.ensures c.years_between-years.ensures)
    (omega (arith, c.if-i-n.false, c.loop-i.invariant.0, c.loop-i.invariant.1.0))
