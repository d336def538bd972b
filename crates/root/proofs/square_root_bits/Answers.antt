-- `root::square_root_bits` meets its contract.
use Rattle.std.proofs.Common.{T, sym, ap, ◌∙◌, subst}
use Rattle.quantity.specs.rules.Answer.{answered}
use Rattle.root.specs.laws.Bits.{normal_bits_answered}
use Rattle.root.specs.laws.Tests.{normal_tested}
use Rattle.root.proofs.square_root_bits.Goals as goal

pub returns-then-x-2 : goal.returns-then-x-2
returns-then-x-2 c =
    let x = c.args.x in
    ap answered c.normal_bits.ensures
    ∙ normal_bits_answered x (normal_tested x (subst T (sym c.well_formed.0.1) tt) c.if-x.true c.if-x-2.true)
