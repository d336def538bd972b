-- `root::square_root` meets its contract: no normal number above zero is refused.
use Rattle.std.proofs.Common.{rules}
use Rattle.std.proofs.Common.{rules, T, sym, ap, ◌∙◌, subst}
use Rattle.quantity.specs.rules.Answer.{answered}
use Rattle.root.specs.rules.Root.{root_rule}
use Rattle.root.specs.laws.Root.{root_answered}
use Rattle.root.specs.laws.Tests.{normal_tested}
use Rattle.root.proofs.square_root.Goals as goal

pub returns-then-x-2 : goal.returns-then-x-2
returns-then-x-2 c =
    let x = c.args.x in
    let n = normal_tested x (subst T (sym c.well_formed.0.1) tt) c.if-x.true c.if-x-2.true in
    ap answered c.normal_root.ensures ∙ sym (root_answered x n.above.finite n.plus)

pub returns-in_err-root_refusal : goal.returns-in_err-root_refusal
unfolding root_rule
returns-in_err-root_refusal c = search rules

pub returns : goal.returns
unfolding root_rule
returns c = search rules
