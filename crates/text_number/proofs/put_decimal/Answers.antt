-- `text_number::put_decimal` meets its contract.
use mathlib.Core.Path.{◌∙◌}
use Rattle.lent.specs.laws.Writing.{same}
use Rattle.text_number.proofs.Digits.{decimal_spelt}
use Rattle.text_number.proofs.put_decimal.Goals as goal

pub returns : goal.returns
returns c =
    let spelt = c.decimal-k in
    same (spelt.ensures.digits ∙ decimal_spelt c.args.n spelt.result c.ranges.n.fits spelt.ensures.len) c.put.ensures
