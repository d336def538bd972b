-- `text_residuals::put_sight` meets its contract.
use Rattle.lent.specs.laws.Writing.{after}
use Rattle.text_residuals.specs.rules.Figures.{decimal_then, residual_then, sight_text}
use Rattle.text_residuals.proofs.put_sight.Goals as goal

pub returns : goal.returns
unfolding sight_text decimal_then residual_then
returns c =
    after c.put_signed_then-a.ensures (after c.put_signed_then-b.ensures (after c.put_signed_then-c.ensures c.put_signed_then.ensures))
