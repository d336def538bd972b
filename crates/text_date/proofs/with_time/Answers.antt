-- `text_date::with_time` meets its contract.
use borrow.Author.Tests.{eq-eqb, ne_eqb}
use mathlib.Core.Path.{sym, ◌∙◌}
use Rattle.text_date.specs.rules.Time.{with_time}
use Rattle.text_date.specs.laws.Steps.{set, unset, clock_long, no_clock, no_fraction_form, formed}
use Rattle.text_date.proofs.with_time.Goals as goal

pub returns-then-text-ne84 : goal.returns-then-text-ne84
unfolding with_time
returns-then-text-ne84 c = simp (ne_eqb _ _ c.if-text-ne84.true)

pub returns-then-text-ne90 : goal.returns-then-text-ne90
unfolding with_time
returns-then-text-ne90 c = simp (eq-eqb _ _ c.if-text-ne84.false, ne_eqb _ _ c.if-text-ne90.true)

pub returns-then-not-is_clock : goal.returns-then-not-is_clock
returns-then-not-is_clock c =
    no_clock _ _ c.if-text-ne84.false c.if-text-ne90.false _ c.is_clock.ensures (unset _ c.if-not-is_clock.true-raw)

pub is_fraction-requires : goal.is_fraction-requires
is_fraction-requires c = clock_long _ (sym c.is_clock.ensures ∙ set _ c.if-not-is_clock.false-raw)

pub returns-then-not-is_fraction : goal.returns-then-not-is_fraction
returns-then-not-is_fraction c =
    no_fraction_form _ _ c.if-text-ne84.false c.if-text-ne90.false _ c.is_clock.ensures (set _ c.if-not-is_clock.false-raw)
    _ c.is_fraction.ensures (unset _ c.if-not-is_fraction.true-raw)

pub clock_in-requires : goal.clock_in-requires
clock_in-requires c =
    clock_long _ (sym c.is_clock.ensures ∙ set _ c.if-not-is_clock.false-raw)

pub returns : goal.returns
returns c =
    c.clock_in.ensures
    ∙ formed _ _ c.if-text-ne84.false c.if-text-ne90.false _ c.is_clock.ensures (set _ c.if-not-is_clock.false-raw)
    _ c.is_fraction.ensures (set _ c.if-not-is_fraction.false-raw)
