-- `text_number::put_hex16` meets its contract.
use mathlib.Core.Path.{◌∙◌}
use Rattle.lent.specs.laws.Writing.{same}
use Rattle.text_number.proofs.Digits.{hex_spelt}
use Rattle.text_number.proofs.put_hex16.Goals as goal

pub returns : goal.returns
returns c =
    let spelt = c.hex-k in
    same (spelt.ensures.digits ∙ hex_spelt c.args.n spelt.result c.ranges.n.fits spelt.ensures.len) c.put.ensures
