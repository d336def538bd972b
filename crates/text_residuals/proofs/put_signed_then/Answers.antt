-- `text_residuals::put_signed_then` meets its contract.
use Rattle.lent.specs.laws.Writing.{after}
use Rattle.text_residuals.proofs.put_signed_then.Goals as goal

pub returns : goal.returns
returns c =
    after c.put_signed-a.ensures c.put_byte.ensures
