-- `heading_mean::spread_of` meets its contract.
use mathlib.Core.Path.{sym, ◌∙◌}
use native.Mathlib.Omega.{arith}
use Rattle.heading_mean.specs.rules.Spread.{spread_of}
use Rattle.heading_mean.specs.notions.Night.{Night}
use Rattle.heading_mean.specs.laws.Spread.{night_figures}
use Rattle.heading_mean.proofs.spread_of.Goals as goal

pub returns-then-is_night : goal.returns-then-is_night
unfolding spread_of
returns-then-is_night c =
    rw (← c.is_night.ensures, c.if-is_night.true, ← c.saturating_sub.ensures) c.root_over.ensures

pub returns : goal.returns
unfolding spread_of
returns c = rw (← c.is_night.ensures, c.if-is_night.false)

pub overflow_mul-count : goal.overflow_mul-count
overflow_mul-count c =
    let night : Night c.args.count c.args.sum c.args.squares = night_figures c.args.count c.args.sum c.args.squares (sym c.is_night.ensures ∙ c.if-is_night.true) in
    record { fits = omega (arith, night.times) }

pub overflow_mul-sum : goal.overflow_mul-sum
overflow_mul-sum c =
    let night : Night c.args.count c.args.sum c.args.squares = night_figures c.args.count c.args.sum c.args.squares (sym c.is_night.ensures ∙ c.if-is_night.true) in
    record { fits = omega (arith, night.square) }

pub overflow_sub-count : goal.overflow_sub-count
overflow_sub-count c =
    let night : Night c.args.count c.args.sum c.args.squares = night_figures c.args.count c.args.sum c.args.squares (sym c.is_night.ensures ∙ c.if-is_night.true) in
    omega (arith, night.two)

pub overflow_mul-count-then-is_night : goal.overflow_mul-count-then-is_night
overflow_mul-count-then-is_night c =
    let night : Night c.args.count c.args.sum c.args.squares = night_figures c.args.count c.args.sum c.args.squares (sym c.is_night.ensures ∙ c.if-is_night.true) in
    record { fits = omega (arith, night.divisor) }
