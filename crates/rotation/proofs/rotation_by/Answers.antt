-- `rotation::rotation_by` meets its contract.
use Rattle.rotation.specs.rules.Turns.{rotation_by}
use Rattle.rotation.proofs.rotation_by.Goals as goal

pub returns : goal.returns
unfolding rotation_by
returns c =
    rw (c.about_z-2.ensures, c.product-right.ensures, c.about_z.ensures, c.about_y.ensures) at c.product.ensures
