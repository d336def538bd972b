-- `aberr_table::velocity_on` meets its contract.
use Rattle.aberr_table.specs.rules.Velocity.{velocity_of}
use Rattle.aberr_table.proofs.velocity_on.Goals as goal

pub returns : goal.returns
unfolding velocity_of
returns c = rw (c.arguments_at.ensures, c.century.ensures) at c.rows_sum.ensures
