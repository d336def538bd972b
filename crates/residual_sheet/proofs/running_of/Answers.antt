-- `residual_sheet::running_of` meets its contract: after i passes the figures are those of the first i entries.
use mathlib.Core.Bool.{not}
use mathlib.Core.Path.{refl, sym, subst, ◌∙◌}
use Prim.Native.Nat.{◌<◌}
use native.Mathlib.Omega.{arith}
use lib.Dec.{T}
use lib.Ieee.{binary64, nan_bits}
use lib.ListN.{length, get_or}
use Rattle.list.specs.rules.Stars.{most_stars}
use Rattle.residual_sheet.specs.rules.Entry.{entry_at}
use Rattle.residual_sheet.specs.rules.Running.{running_of, AtMost}
use Rattle.residual_sheet.specs.laws.Running.{one_more, first_at_most}
use Rattle.residual_sheet.specs.laws.Residuals.{floats_no_nan}
use Rattle.residual_sheet.proofs.running_of.Goals as goal

pub loop-i-init : goal.loop-i-init
unfolding running_of
loop-i-init c = refl

pub loop-i-preserved : goal.loop-i-preserved
unfolding entry_at
loop-i-preserved c =
    let a = c.args in
    rw (c.residual_of-x.ensures, c.loop-i.invariant) at c.onward-r.ensures
    ∙ one_more a.across a.status.now a.computed.now a.measured.now c.loop-i.i

pub float_from_bits-c : goal.float_from_bits-c
float_from_bits-c c =
    let computed-there : c.loop-i.i < length c.args.computed.now = omega (arith, c.loop-i-test.true, c.requires.computed_len) in
    let computed-no-nan : T (not (nan_bits binary64 (get_or c.args.computed.now c.loop-i.i 0))) = floats_no_nan c.args.computed.now c.loop-i.i computed-there c.requires.computed_value in
    computed-no-nan

pub offset_bounds-measured-i : goal.offset_bounds-measured-i
offset_bounds-measured-i c =
    let there : c.loop-i.i < most_stars = omega (arith, c.loop-i-test.true, c.requires.status_len_bound) in
    record { fits = omega (arith, there) }

pub bounds-measured-i : goal.bounds-measured-i
bounds-measured-i c =
    let measured-there : c.loop-i.i < length c.args.measured.now = omega (arith, c.loop-i-test.true, c.requires.measured_len) in
    measured-there

pub float_from_bits-m : goal.float_from_bits-m
float_from_bits-m c =
    let measured-there : c.loop-i.i < length c.args.measured.now = omega (arith, c.loop-i-test.true, c.requires.measured_len) in
    let measured-no-nan : T (not (nan_bits binary64 (get_or c.args.measured.now c.loop-i.i 0))) = floats_no_nan c.args.measured.now c.loop-i.i measured-there c.requires.measured_value in
    measured-no-nan

pub onward-r-requires : goal.onward-r-requires
onward-r-requires c =
    let there : c.loop-i.i < most_stars = omega (arith, c.loop-i-test.true, c.requires.status_len_bound) in
    let bounded : AtMost c.loop-i.i c.loop-i.r = let a = c.args in
    subst (AtMost c.loop-i.i) (sym c.loop-i.invariant)
    (first_at_most a.across a.status.now a.computed.now a.measured.now c.loop-i.i (omega (arith, there))) in
    bounded
