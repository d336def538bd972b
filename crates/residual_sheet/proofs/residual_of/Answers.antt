-- `residual_sheet::residual_of` meets its contract.
use Rattle.residual_sheet.specs.rules.Residual.{residual_of}
use Rattle.residual_sheet.proofs.residual_of.Goals as goal

pub returns-then-across : goal.returns-then-across
unfolding residual_of
returns-then-across c =
    rw (c.if-across.true, ← c.difference-d.ensures, ← c.across_turn.ensures) c.in_milliarcseconds.ensures

pub returns : goal.returns
unfolding residual_of
returns c = rw (c.if-across.false, ← c.difference-d.ensures) c.in_milliarcseconds-2.ensures
