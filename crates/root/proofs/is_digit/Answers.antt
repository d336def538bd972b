-- `root::is_digit` meets its contract: no difference that passes its test has wrapped.
-- ---- at the start
use Rattle.std.proofs.Common.{◌≡◌, ℕ, zero, suc, ◌+◌, ◌-◌, ◌*◌, ◌/◌, ◌%◌, ◌^◌, ◌<◌, ◌≤◌, sym, refl, ap, ◌∙◌, true≢false, mul-le-mul_right, div-lt_iff_lt-mul, mul-le-mul, mul-le-mul_left, mul-lt-mul_of_pos_right, le-div_iff_mul-le, le_of_mul-le-mul_right, arith, pow_pos, pow_mono, pow-add, leb-false, leb-true}
use Rattle.root.specs.rules.Whole.{IsDigit}
use Rattle.root.proofs.is_digit.Goals as goal

product_most : (x y : ℕ) → x < 2 ^ 30 → y < 2 ^ 30 → x * y ≤ 2 ^ 60
product_most x y h k = mul-le-mul {n₁ = x} {m₁ = y} {n₂ = 2 ^ 30} {m₂ = 2 ^ 30} (omega arith) (omega arith)

-- on plain numbers: v is what is left above the product, in whole p
module _ (left twice p t v : ℕ) (v-most : v < 2 ^ 64) (some : 0 < p) (product : twice * t ≤ 2 ^ 60) (square : t * t ≤ 2 ^ 60) (short : t < 2 ^ 30)
    (step : twice * p ≤ 2 ^ 56) (first : (v + twice * t) % 2 ^ 64 ≡ left) where
  -- where t does not take too much, nothing has wrapped
  above : twice * t ≤ left → v + twice * t ≡ left
  above h = omega arith

  parted : v + twice * t ≡ left → left * p ≡ v * p + twice * t * p
  parted e = rw (sym e) (omega arith)

  below : twice * t * p + t * t ≤ left * p → twice * t ≤ left
  below h = le_of_mul-le-mul_right {m = twice * t} {n = left} {k = p} (omega arith) some

  large : 2 ^ 63 ≤ v * p → twice * t * p + t * t ≤ left * p → twice * (t + 1) * p + (t + 1) * (t + 1) ≤ left * p
  large h under = omega (arith, parted (above (below under)))

  module _ (rest : ℕ) (rest-fits : rest < 2 ^ 64) (small : v * p < 2 ^ 63) (second : (rest + t * t) % 2 ^ 64 ≡ v * p) where
    -- p is 1 at least
    v_less : v < 2 ^ 63
    v_less = omega (arith, mul-le-mul_left v some)

    yes : rest ≤ twice * p + t + t → IsDigit left twice p t
    yes h =
        let e = parted (omega (arith, v_less)) in
        record { under = omega arith; over = omega arith }

    no : twice * p + t + t < rest → twice * t * p + t * t ≤ left * p → twice * (t + 1) * p + (t + 1) * (t + 1) ≤ left * p
    no h under = omega (arith, parted (above (below under)))

module _ (c : goal.Start) where
  abbrev p : ℕ
  p = 2 ^ c.args.k

  product : c.args.twice * c.args.t ≤ 2 ^ 60
  product = product_most c.args.twice c.args.t c.requires.0 c.requires.2

  square : c.args.t * c.args.t ≤ 2 ^ 60
  square = product_most c.args.t c.args.t c.requires.2 c.requires.2

  step : c.args.twice * p ≤ 2 ^ 56
  step = mul-le-mul {n₁ = c.args.twice} {m₁ = p} {n₂ = 2 ^ 30} {m₂ = 2 ^ 26} (omega arith) (pow_mono {i = c.args.k} {j = 26} (omega arith))

  step_exact : (c.args.twice * p) % 2 ^ 64 ≡ c.args.twice * p
  step_exact = omega (arith, step)

  parts : 2 ^ (63 - c.args.k) * p ≡ 2 ^ 63
  parts = sym (pow-add 2 (63 - c.args.k) c.args.k) ∙ ap (λ (x : ℕ). 2 ^ x) whole
    where
      whole : 63 - c.args.k + c.args.k ≡ 63
      whole = omega arith

pub overflow_mul-twice : goal.overflow_mul-twice
overflow_mul-twice c = omega (arith, product c)

pub overflow_mul-t : goal.overflow_mul-t
overflow_mul-t c = omega (arith, square c.before.before)

pub overflow_add-result : goal.overflow_add-result
overflow_add-result c = omega (arith, step c.before.before.before)

pub overflow_add-result-then-above-k-eq0 : goal.overflow_add-result-then-above-k-eq0
overflow_add-result-then-above-k-eq0 c = omega (arith, step c.before.before.before)

pub returns-then-above-k-eq0 : goal.returns-then-above-k-eq0
returns-then-above-k-eq0 c =
    let v = c.wrapping_sub_u64-above in
    let rest = c.wrapping_sub_u64-rest in
    let short : v.result < 1 * 2 ^ (63 - c.args.k) = (div-lt_iff_lt-mul (pow_pos (63 - c.args.k))).0 (omega (arith, c.if-above-k-eq0.true)) in
    let less : v.result * p c.before.before.before < 1 * 2 ^ (63 - c.args.k) * p c.before.before.before = mul-lt-mul_of_pos_right short (pow_pos c.args.k) in
    let small : v.result * p c.before.before.before < 2 ^ 63 = omega (arith, parts c.before.before.before) in
    let exact : (v.result * p c.before.before.before) % 2 ^ 64 ≡ v.result * p c.before.before.before = omega arith in
    let test = rw (exact) at rest.ensures.value in
    rw (step_exact c.before.before.before)
    (record {
      yes = λ e. yes _ _ _ _ v.result v.type_inv (pow_pos c.args.k) (product c.before.before.before) (square c.before.before.before) c.requires.2 (step c.before.before.before) v.ensures.value rest.result rest.type_inv small test (leb-true _ _ e);
      no = λ e. no _ _ _ _ v.result v.type_inv (pow_pos c.args.k) (product c.before.before.before) (square c.before.before.before) c.requires.2 (step c.before.before.before) v.ensures.value rest.result rest.type_inv small test (leb-false _ _ e);
    })

pub returns-else-above-k-eq0 : goal.returns-else-above-k-eq0
returns-else-above-k-eq0 c =
    let v = c.wrapping_sub_u64-above in
    let long : 1 ≤ v.result / 2 ^ (63 - c.args.k) = some_of _ c.if-above-k-eq0.false in
    let most : 1 * 2 ^ (63 - c.args.k) ≤ v.result = (le-div_iff_mul-le (pow_pos (63 - c.args.k))).0 long in
    let more : 1 * 2 ^ (63 - c.args.k) * p c.before.before ≤ v.result * p c.before.before = mul-le-mul_right (p c.before.before) most in
    record {
      yes = λ e. absurd (true≢false (sym e));
      no = λ e. large _ _ _ _ v.result v.type_inv (pow_pos c.args.k) (product c.before.before) (square c.before.before) c.requires.2 (step c.before.before) v.ensures.value (omega (arith, parts c.before.before, more));
    }
  where
    some_of : (n : ℕ) → (n ≡ 0 → ⊥) → 1 ≤ n
    some_of zero h = absurd (h refl)
    some_of (suc n) h = omega arith
