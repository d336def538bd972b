-- `root::rounded_root` meets its contract: two digits, and what is left beside them.
-- ---- after the first digit
-- ---- after the second
use Rattle.std.proofs.Common.{◌≡◌, ℕ, ◌+◌, ◌-◌, ◌*◌, ◌%◌, ◌^◌, ◌<◌, ◌≤◌, subst, mul-le-mul, arith}
use Rattle.root.specs.rules.Whole.{IsWholeRoot, IsDigit}
use Rattle.root.specs.laws.Whole.{whole_root_least, whole_root_most, first_digit, second_most, first_fits, second_fits, rest_most, rounded_down}
use Rattle.root.specs.laws.Whole.{rounded_up}
use Rattle.root.proofs.rounded_root.Goals as goal

module _ (c : goal.After-digit-a) where
  abbrev d : ℕ
  d = c.args.d

  abbrev a : ℕ
  a = c.digit-a.result

  abbrev w : ℕ
  w = d * 2 ^ 4

  whole_exact : (d * 2 ^ 4) % 2 ^ 64 ≡ w
  whole_exact = omega (arith, c.requires.1)

  whole : IsWholeRoot w a
  whole = first_digit (subst (λ (x : ℕ). IsDigit x 0 1 a) whole_exact c.digit-a.ensures)

  least : 2 ^ 28 ≤ a
  least = whole_root_least (2 ^ 28) whole (omega (arith, c.requires.0))

  most : a < 2 ^ 29
  most = whole_root_most (2 ^ 29) whole (omega (arith, c.requires.1))

  left_most : w - a * a ≤ a + a
  left_most = omega (arith, whole)

  exact : (((d * 2 ^ 4) % 2 ^ 64 - a * a) * 2 ^ 24) % 2 ^ 64 ≡ (w - a * a) * 2 ^ 24
  exact = omega (arith, whole_exact, left_most, most)

module _ (c : goal.After-digit-b) where
  abbrev one : goal.After-digit-a
  one = c.before.before.before

  abbrev b : ℕ
  b = c.digit-b.result

  second : IsDigit ((w one - a one * a one) * 2 ^ 24) (a one + a one) (2 ^ 24) b
  second = rw (exact one) at c.digit-b.ensures

  abbrev lo : 2 ^ 52 ≤ d one
  lo = one.before.before.requires.0

  abbrev hi : d one < 2 ^ 54
  hi = one.before.before.requires.1

  b_most : b ≤ 2 ^ 24
  b_most = second_most lo hi (whole one) second

  square_most : b * b ≤ 2 ^ 48
  square_most = mul-le-mul {n₁ = b} {m₁ = b} {n₂ = 2 ^ 24} {m₂ = 2 ^ 24} b_most b_most

  root_exact : (a one * 2 ^ 24) % 2 ^ 64 ≡ a one * 2 ^ 24
  root_exact = omega (arith, most one)

  fits : (a one + a one) * b ≤ (w one - a one * a one) * 2 ^ 24
  fits = first_fits lo hi (whole one) second

  rest_exact : (((w one - a one * a one) * 2 ^ 24 - (a one + a one) * b) * 2 ^ 24) % 2 ^ 64
      ≡ ((w one - a one * a one) * 2 ^ 24 - (a one + a one) * b) * 2 ^ 24
  rest_exact = omega (arith, rest_most lo hi (whole one) second, most one, b_most, square_most)

pub digit-a-requires : goal.digit-a-requires
digit-a-requires c = (omega arith, omega arith, c.selected.ensures, omega arith)

pub overflow_add-twice : goal.overflow_add-twice
overflow_add-twice c = omega (arith, most c)

pub overflow_mul-first : goal.overflow_mul-first
overflow_mul-first c = omega (arith, whole c)

pub overflow_sub-first : goal.overflow_sub-first
overflow_sub-first c = omega (arith, whole_exact c, whole c)

pub scaled-requires : goal.scaled-requires
scaled-requires c = omega (arith, whole_exact c, left_most c, most c)

pub digit-b-requires : goal.digit-b-requires
digit-b-requires c =
    (omega (arith, most c.before.before), omega arith, c.selected-2.ensures, omega (arith, exact c.before.before, left_most c.before.before, least c.before.before))

pub overflow_add-q : goal.overflow_add-q
overflow_add-q c = omega (arith, most (one c), b_most c)

pub overflow_mul-rest : goal.overflow_mul-rest
overflow_mul-rest c = omega (arith, fits c, left_most (one c), most (one c))

pub overflow_sub-rest : goal.overflow_sub-rest
overflow_sub-rest c = rw (exact (one c)) (fits c)

pub overflow_mul-rest-2 : goal.overflow_mul-rest-2
overflow_mul-rest-2 c = omega (arith, square_most c)

pub overflow_sub-rest-2 : goal.overflow_sub-rest-2
overflow_sub-rest-2 c = rw (exact (one c), rest_exact c) (second_fits (lo c) (hi c) (whole (one c)) (second c))

pub returns-then-rest-q : goal.returns-then-rest-q
returns-then-rest-q c =
    rw (root_exact c.before) (rounded_up (lo c.before) (hi c.before) (whole (one c.before)) (second c.before) (rw (exact (one c.before), rest_exact c.before, root_exact c.before) at c.if-rest-q.true))

pub returns-else-rest-q : goal.returns-else-rest-q
returns-else-rest-q c =
    rw (root_exact c.before) (rounded_down (lo c.before) (hi c.before) (whole (one c.before)) (second c.before) (rw (exact (one c.before), rest_exact c.before, root_exact c.before) at c.if-rest-q.false))
