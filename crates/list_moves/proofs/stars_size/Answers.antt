-- `list_moves::stars_size` meets its contract: after i passes the bytes of the first i stars are counted.
use mathlib.Core.Path.{sym, ◌∙◌}
use native.Mathlib.Omega.{arith}
use Rattle.list_radio.specs.laws.Star.{at_most_twenty_five}
use Rattle.list_moves.proofs.Measuring.{begin, bounded, out_of_range, on, measured}
use Rattle.list_moves.proofs.stars_size.Goals as goal

pub loop-i-init : goal.loop-i-init
loop-i-init c = begin _ c.requires

pub returns-then-not-in_range : goal.returns-then-not-in_range
returns-then-not-in_range c =
    out_of_range _ _ _ c.loop-i.invariant (omega arith) _ c.nth-star.ensures (sym c.in_range.ensures ∙ c.if-not-in_range.true)

pub overflow_add-size : goal.overflow_add-size
overflow_add-size c =
    omega (arith, bounded _ _ _ c.loop-i.invariant, c.star_size-size.ensures, at_most_twenty_five c.nth-star.result)

pub loop-i-preserved : goal.loop-i-preserved
loop-i-preserved c =
    on _ _ _ c.loop-i.invariant (omega arith) _ c.nth-star.ensures _ (sym c.in_range.ensures ∙ c.if-not-in_range.false) c.star_size-size.ensures

pub returns : goal.returns
returns c = measured _ _ _ c.loop-i.invariant (omega arith)
