-- `heading_mean::sum_of` meets its contract.
use mathlib.Core.Path.{ap, ◌∙◌}
use lib.Ieee.{neg}
use Rattle.heading_mean.specs.laws.Sum.{sum_below, sum_above}
use Rattle.heading_mean.proofs.sum_of.Goals as goal

pub returns-then-above-below : goal.returns-then-above-below
returns-then-above-below c = ap neg c.from_whole.ensures ∙ sum_below _ _ c.if-above-below.true

pub returns : goal.returns
returns c = c.from_whole-2.ensures ∙ sum_above _ _ c.if-above-below.false
