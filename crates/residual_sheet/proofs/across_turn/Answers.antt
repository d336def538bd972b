-- `residual_sheet::across_turn` meets its contract.
use mathlib.Core.Path.{◌≡◌, ap, ◌∙◌}
use mathlib.Core.Bool.{true, false}
use lib.Ieee.{lt}
use Rattle.double.specs.rules.Operations.{◌⊖◌}
use Rattle.quantity.specs.declared.Rad.{Rad}
use Rattle.quantity.specs.rules.Angle.{PI, rad}
use Rattle.helpers.specs.rules.Angle.{turn_in_radians}
use Rattle.residual_sheet.specs.rules.Residual.{taken_back, across_turn}
use Rattle.residual_sheet.proofs.across_turn.Goals as goal

goes_back : (y : Rad) → lt PI y.0 ≡ true → rad (y.0 ⊖ turn_in_radians) ≡ taken_back y
unfolding taken_back
goes_back y e = rw e

stays : (y : Rad) → lt PI y.0 ≡ false → y ≡ taken_back y
unfolding taken_back
stays y e = rw e

pub returns-then-y : goal.returns-then-y
unfolding across_turn
returns-then-y c = goes_back _ c.if-y.true ∙ ap taken_back c.within_two_PI-y.ensures

pub returns : goal.returns
unfolding across_turn
returns c = stays _ c.if-y.false ∙ ap taken_back c.within_two_PI-y.ensures
