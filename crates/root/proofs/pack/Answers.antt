-- `root::pack` meets its contract: p stands for a number in `Normal` form.
use Rattle.std.proofs.Common.{◌≡◌, ℕ, ◌+◌, ◌*◌, ◌/◌, ◌%◌, ◌^◌, ap, ◌∙◌, arith}
use Rattle.double.specs.laws.Patterns.{pattern_no_nan}
use Rattle.root.specs.rules.Whole.{whole_root}
use Rattle.root.specs.notions.Steps.{Normal}
use Rattle.root.specs.laws.Normal.{normal, pattern_is}
use Rattle.root.specs.laws.Nearest.{root_digits_most}
use Rattle.root.proofs.pack.Goals as goal

form : (c : goal.Start)
    → Normal ((2 ^ 52 + c.args.p % 2 ^ 52) * 2 ^ (c.args.p / 2 ^ 52 + 54)) ((2 ^ 52 + c.args.p % 2 ^ 52) * 2 ^ (c.args.p / 2 ^ 52 % 2))
    (c.args.p / 2 ^ 52 / 2)
form c = normal (2 ^ 52 + c.args.p % 2 ^ 52) (c.args.p / 2 ^ 52) (omega arith) (omega arith) (omega arith)

found : (c : goal.After-rounded_root)
    → c.rounded_root.result
    ≡ (whole_root 54 ((2 ^ 52 + c.args.p % 2 ^ 52) * 2 ^ (c.args.p / 2 ^ 52 % 2) * 2 ^ 54) + 1) / 2
found c = c.rounded_root.ensures ∙ ap (λ (d : ℕ). (whole_root 54 (d * 2 ^ 54) + 1) / 2) (omega (arith, (form c.before.before).most))

pub float_from_bits-x : goal.float_from_bits-x
float_from_bits-x c = pattern_no_nan _ (omega arith)

pub rounded_root-requires : goal.rounded_root-requires
rounded_root-requires c = omega (arith, (form c.before).least, (form c.before).most)

pub overflow_add-result : goal.overflow_add-result
overflow_add-result c = omega (arith, found c, root_digits_most (form c.before.before))

pub returns : goal.returns
returns c = rw (pattern_is (form c.before.before)) (omega (arith, found c, root_digits_most (form c.before.before)))
