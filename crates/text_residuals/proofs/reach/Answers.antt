-- `text_residuals::reach` meets its contract.
use mathlib.Core.Path.{sym, ap, ◌∙◌}
use lib.IntN.{ℤ}
use mir.Syntax.{w64}
use mir.Val.{SFits, to_z, of_z}
use mir.Facts.{to_z-of_z}
use Rattle.signed.specs.rules.Signed.{reach}
use Rattle.text_residuals.proofs.Cases.{size_above, above, fits_flipped, casts_flipped, reach_flipped}
use Rattle.text_residuals.proofs.reach.Lts as lts
use Rattle.text_residuals.proofs.reach.Reads as reads
use Rattle.text_residuals.proofs.reach.Tie as tie
use Rattle.text_residuals.proofs.reach.Goals as goal

-- the argument as the code reads it
module _ (c : (lts.Start reads.Pre reads.Post)) where
  abbrev as_read : ℤ
  as_read = to_z w64 (of_z w64 c.args.z)

  fits : SFits w64 as_read
  fits = rw (to_z-of_z c.ranges.z) c.ranges.z

pub overflow_sub-result : goal.overflow_sub-result
overflow_sub-result c = fits_flipped _ (fits c.before) c.if-z-lt0.true

pub overflow_cast-result : goal.overflow_cast-result
overflow_cast-result c = casts_flipped _ (fits c.before) c.if-z-lt0.true

pub overflow_cast-result-else-z-lt0 : goal.overflow_cast-result-else-z-lt0
overflow_cast-result-else-z-lt0 c = above _ (fits c.before) c.if-z-lt0.false

pub returns-then-z-lt0 : goal.returns-then-z-lt0
returns-then-z-lt0 c = reach_flipped _ (fits c.before) c.if-z-lt0.true ∙ ap reach (to_z-of_z c.ranges.z)

pub returns-else-z-lt0 : goal.returns-else-z-lt0
returns-else-z-lt0 c = sym (size_above (as_read c.before) c.if-z-lt0.false) ∙ ap reach (to_z-of_z c.ranges.z)
