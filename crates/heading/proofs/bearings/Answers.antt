-- `heading::bearings` meets its contract.
use Rattle.heading.specs.rules.Sky.{bearings}
use Rattle.heading.proofs.bearings.Goals as goal

pub returns : goal.returns
unfolding bearings
returns c = rw (c.northward-heading.ensures, c.to_degrees-alt_degrees.ensures, c.to_degrees-az_degrees.ensures)
