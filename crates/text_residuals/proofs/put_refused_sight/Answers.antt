-- `text_residuals::put_refused_sight` meets its contract.
use Rattle.lent.specs.laws.Writing.{after}
use Rattle.text_residuals.specs.rules.Figures.{decimal_then, refused_sight_text}
use Rattle.text_residuals.proofs.put_refused_sight.Goals as goal

pub returns : goal.returns
unfolding refused_sight_text decimal_then
returns c =
    after c.put_signed_then-a.ensures (after c.put_signed_then-b.ensures c.put_refused.ensures)
