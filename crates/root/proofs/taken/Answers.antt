-- `root::taken` meets its contract: neither product has more than 61 digits.
use Rattle.std.proofs.Common.{◌≡◌, ℕ, ◌+◌, ◌-◌, ◌*◌, ◌%◌, ◌^◌, ◌≤◌, mul-le-mul, div-le_self, arith, pow_pos, pow_mono}
use Rattle.root.specs.notions.Steps.{taken}
use Rattle.root.proofs.taken.Goals as goal

product : (x y : ℕ) → x ≤ 2 ^ 30 → y ≤ 2 ^ 30 → x * y ≤ 2 ^ 60
product x y h k = mul-le-mul {n₁ = x} {m₁ = y} {n₂ = 2 ^ 30} {m₂ = 2 ^ 30} h k

halvings : (c : goal.Start) → 2 ^ c.args.k ≤ 2 ^ 26
halvings c = pow_mono {i = c.args.k} {j = 26} (omega arith)

unit : (c : goal.Start) → (1 * 2 ^ c.args.k) % 2 ^ 64 ≡ 2 ^ c.args.k
unit c = omega (arith, halvings c)

square : (c : goal.Start) → c.args.t * c.args.t ≤ 2 ^ 60
square c = product c.args.t c.args.t c.requires.2 c.requires.2

other : (c : goal.Start) → c.args.twice * c.args.t ≤ 2 ^ 60
other c = product c.args.twice c.args.t (omega arith) c.requires.2

pub overflow_mul-result : goal.overflow_mul-result
overflow_mul-result c = omega (arith, other c)

pub overflow_mul-result-2 : goal.overflow_mul-result-2
overflow_mul-result-2 c = omega (arith, square c)

pub overflow_sub-result : goal.overflow_sub-result
overflow_sub-result c = omega (arith, unit c, pow_pos c.args.k)

pub overflow_add-result : goal.overflow_add-result
overflow_add-result c = omega (arith, unit c, halvings c, square c)

pub overflow_add-result-2 : goal.overflow_add-result-2
overflow_add-result-2 c = omega (arith, unit c, halvings c, square c, other c, div-le_self (c.args.t * c.args.t + ((1 * 2 ^ c.args.k) % 2 ^ 64 - 1)) (2 ^ c.args.k))

pub returns : goal.returns
unfolding taken
returns c = rw (unit c)
