-- `text_residuals::put_labelled` meets its contract.
use Rattle.lent.specs.laws.Writing.{after}
use Rattle.text_residuals.proofs.put_labelled.Goals as goal

pub returns : goal.returns
returns c =
    after c.put-a.ensures c.put_signed_then.ensures
