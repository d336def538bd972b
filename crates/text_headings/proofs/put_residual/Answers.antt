-- `text_headings::put_residual` meets its contract.
use Rattle.lent.specs.laws.Writing.{after}
use Rattle.text_headings.specs.rules.Sight.{residual_text}
use Rattle.text_headings.proofs.put_residual.Goals as goal

pub returns : goal.returns
unfolding residual_text
returns c =
    after c.put_seconds-a.ensures (after c.put_way-b.ensures (after c.put_decimal-c.ensures (rw c.is_aside.ensures at c.put_aside.ensures)))
