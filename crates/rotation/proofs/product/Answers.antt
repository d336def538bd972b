-- `rotation::product` meets its contract.
use Rattle.rotation.specs.rules.Matrix.{product}
use Rattle.rotation.proofs.product.Goals as goal

pub returns : goal.returns
unfolding product
returns c =
    rw (c.row_times.ensures, c.row_times-2.ensures, c.row_times-3.ensures)
