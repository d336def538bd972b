-- `text_sights::residual_at` meets its contract.
use Rattle.text_sights.proofs.residual_at.Goals as goal

pub returns : goal.returns
returns c =
    rw (
      c.of_pattern-m.ensures,
      c.number_at-2.ensures,
      c.of_pattern-c.ensures,
      c.number_at.ensures,
    )
    at c.residual_of.ensures
