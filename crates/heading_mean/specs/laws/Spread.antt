-- The spread: no figure of a night outgrows its bits, n times the sum of squares is never below the square of the sum, and the spread and
-- the error of the mean are finite.
use Rattle.std.specs.Prelude.{◌≡◌, ◌⊎◌, Bool, cond, ◌&&◌, List, [], ◌∷◌, ℕ, zero, suc, ◌+◌, ◌-◌, ◌*◌, ◌≤◌, ◌<◌, T, leb, ltb, Float, ℤ, pos, negsuc, ◌-ℤ◌, length}
use Rattle.std.proofs.Math.Path.{ap, refl}
use Rattle.std.proofs.Common.{subst, ◌∙◌, inl, inr, mul-pos, mul-le-mul, le_of_mul-le-mul_right, arith, leb→le, ltb→lt, nltb→le}
use Rattle.std.proofs.Math.Bool.{true, false}
use Rattle.std.specs.Float.Ieee.{binary64, div, le, of_bits, of_int, round}
use Rattle.std.specs.Float.Ieee.Bits.{is_true}
use Rattle.std.specs.Float.Ieee.Fits.{and_l, and_r, div-fits}
use Rattle.std.proofs.Math.IntN.{nat_abs}
use borrow.Author.Tests.{le-leb}
use Rattle.double.specs.rules.Operations as operations
use Rattle.double.specs.rules.Operations.{◌⊘◌}
use Rattle.double.specs.rules.Sign.{is_finite}
use Rattle.double.specs.rules.Order.{Between}
use Rattle.double.specs.rules.Whole.{from_whole}
use Rattle.double.specs.notions.Range.{known, ◌⧄◌}
use Rattle.double.specs.laws.Sign.{no_minus_of_plus}
use Rattle.double.specs.laws.Between.{between, zero_le_plus, finite_of_plus, finite_zero}
use Rattle.double.specs.laws.Interval.{bounded}
use Rattle.double.specs.laws.NearZero.{div_plus}
use Rattle.double.specs.laws.WholePart.{from_whole_plus, from_whole_mono}
use Rattle.double.specs.laws.Numbers.{less_or_not}
use Rattle.double.specs.laws.Tests.{by_test, holds}
use Rattle.root.specs.rules.Root.{root_of}
use Rattle.root.specs.laws.Root.{root_answered, root_answers_finite}
use Rattle.quantity.specs.declared.Deg.{Deg}
use Rattle.list.specs.rules.Stars.{most_stars}
use Rattle.residual_sheet.specs.declared.Residual.{Residual}
use Rattle.residual_sheet.specs.rules.Sheet.{taken_in, squares_of, figures_of}
use Rattle.residual_sheet.specs.rules.Running.{above_of, below_of, running_of}
use Rattle.residual_sheet.specs.laws.Running.{sum_in_parts}
use Rattle.heading_mean.specs.rules.Mean.{entries_from, figures_from}
use Rattle.heading_mean.specs.rules.Spread.{is_night, root_over, scatter, spread_of, mean_error}
use Rattle.heading_mean.specs.notions.Night.{Night}
use Rattle.heading_mean.specs.laws.Quotient.{whole_parts, positive_whole}
use Rattle.heading_mean.specs.laws.Grown.{all_at_most}

pub night_figures : (n s q : ℕ) → is_night n s q ≡ true → Night n s q
unfolding is_night
night_figures n s q e =
    let a = leb 2 n in
    let b = leb n 3000 in
    let c = leb s 3000000000 in
    let d = leb q 3000000000000000 in
    let t : T (a && (b && (c && d))) = holds e in
    let two = leb→le 2 n (and_l a (b && (c && d)) t) in
    let few = leb→le n 3000 (and_l b (c && d) (and_r a (b && (c && d)) t)) in
    let sum = leb→le s 3000000000 (and_l c d (and_r b (c && d) (and_r a (b && (c && d)) t))) in
    let squares = leb→le q 3000000000000000 (and_r c d (and_r b (c && d) (and_r a (b && (c && d)) t))) in
    let less : n - 1 ≤ 3000 = omega arith in
    record {
      two = two;
      few = few;
      sum = sum;
      squares = squares;
      times = mul-le-mul few squares;
      square = mul-le-mul sum sum;
      pairs = mul-le-mul few few;
      divisor = mul-le-mul few less;
      divisors = mul-le-mul (mul-le-mul few few) less;
    }

-- ---- what is left by the mean

-- 2ab ≤ a² + b²
two_squares : (a b : ℕ) → 2 * (a * b) ≤ a * a + b * b
two_squares a b = by_order (less_or_not a b)
  where
    apart : (a d : ℕ) → 2 * (a * (a + d)) ≤ a * a + (a + d) * (a + d)
    apart a d = omega arith

    by_order : (a < b) ⊎ (b ≤ a) → 2 * (a * b) ≤ a * a + b * b
    by_order (inl h) =
        let k : a + (b - a) ≡ b = omega arith in
        subst (λ (c : ℕ). 2 * (a * c) ≤ a * a + c * c) k (apart a (b - a))
    by_order (inr h) =
        let k : b + (a - b) ≡ a = omega arith in
        subst (λ (c : ℕ). 2 * (c * b) ≤ c * c + b * b) k (omega (arith, apart b (a - b)))

-- the size of a − b
abbrev gap : ℕ → ℕ → ℕ
gap a b = a - b + (b - a)

-- s of n numbers with squares q, and one of size x more
one_more : (n s q x : ℕ) → s * s ≤ n * q → 2 * (s * x) ≤ q + n * (x * x)
one_more zero zero q x h = omega arith
one_more zero (suc s) q x h = absurd (omega arith)
one_more (suc k) s q x h =
    let n = suc k in
    le_of_mul-le-mul_right {m = 2 * (s * x)} {n = q + n * (x * x)} {k = n} (omega (arith, h, two_squares s (n * x))) (omega arith)

grown_square : (n s t q x : ℕ) → t ≤ s + x → s * s ≤ n * q → t * t ≤ suc n * (x * x + q)
grown_square n s t q x k h = omega (arith, h, mul-le-mul k k, one_more n s q x h)

pub squares_enough : (xs : List Residual) → gap (above_of xs) (below_of xs) * gap (above_of xs) (below_of xs) ≤ length xs * squares_of xs
squares_enough [] = omega arith
squares_enough (x ∷ xs) =
    grown_square (length xs) (gap (above_of xs) (below_of xs)) _ (squares_of xs) x.size (by_sign x.minus (above_of xs) (below_of xs)) (squares_enough xs)
  where
    by_sign : (t : Bool) (a b : ℕ) → gap (cond t 0 x.size + a) (cond t x.size 0 + b) ≤ gap a b + x.size
    by_sign true a b = omega arith
    by_sign false a b = omega arith

gap_size : (a b : ℕ) → nat_abs (pos a -ℤ pos b) ≡ gap a b
gap_size a zero = omega arith
gap_size a (suc b) =
    by_test (λ (z : ℤ). nat_abs z ≡ gap a (suc b)) (ltb a (suc b)) (negsuc (suc b - suc a)) (pos (a - suc b)) (λ t. omega (arith, ltb→lt a (suc b) t))
    (λ t. omega (arith, nltb→le a (suc b) t))

module _ (reference : Deg) (headings : List ℕ) where
  abbrev xs : List Residual
  xs = taken_in (entries_from reference headings)

  size_is : nat_abs (figures_from reference headings).sum ≡ gap (above_of xs) (below_of xs)
  unfolding figures_of
  size_is = ap nat_abs (sum_in_parts xs) ∙ gap_size (above_of xs) (below_of xs)

  -- the subtraction in the spread takes nothing that is not there
  pub scatter_is_there : (let f = figures_from reference headings in nat_abs f.sum * nat_abs f.sum ≤ f.count * f.squares)
  scatter_is_there = rw (size_is) (unfold figures_of in squares_enough xs)

  figures_within : length headings ≤ most_stars
      → (let f = figures_from reference headings in (f.count ≤ 3000) × (nat_abs f.sum ≤ 3000000000) × (f.squares ≤ 3000000000000000))
  unfolding figures_of running_of
  figures_within few =
      let m = all_at_most reference headings few in (
        omega (arith, m.counted),
        omega (arith, size_is, m.counted, m.sizes),
        omega (arith, m.counted, m.squared),
      )

  -- the figures of every accepted set, two of whose sights agree with the reference, are a night's
  pub figures_are_a_night : length headings ≤ most_stars → 2 ≤ (figures_from reference headings).count
      → (let f = figures_from reference headings in is_night f.count (nat_abs f.sum) f.squares ≡ true)
  unfolding is_night
  figures_are_a_night few two =
      let b = figures_within few in
      rw (le-leb 2 _ two, le-leb _ 3000 b.0, le-leb _ 3000000000 b.1, le-leb _ 3000000000000000 b.2)

-- ---- it is a number

module _ (a b : ℕ) (A : a ≤ 9000000000000000000) (B : 0 < b) (C : b ≤ 27000000000) where
  abbrev most : Float
  most = from_whole 9000000000000000000

  abbrev widest : Float
  widest = from_whole 27000000000

  abbrev quotient : Float
  quotient = from_whole a ⊘ from_whole b

  top : Between operations.zero most (from_whole a)
  unfolding is_finite of_bits of_int round
  top =
      let h = from_whole_mono a 9000000000000000000 A in
      let f = finite_of_plus (from_whole a) most (from_whole_plus a) tt h in
      between tt tt (zero_le_plus (from_whole a) f (from_whole_plus a)) h

  bottom : Between (from_whole 1) widest (from_whole b)
  unfolding is_finite of_int round
  bottom = between tt tt (from_whole_mono 1 b B) (from_whole_mono b 27000000000 C)

  quotient_within : Between operations.zero most quotient
  unfolding is_finite le div of_bits of_int round
  quotient_within = bounded binary64 operations.zero most (known top ⧄ known bottom) tt

  root_over_finite : is_finite (root_over a b) ≡ true
  unfolding root_over
  root_over_finite =
      let p = div_plus binary64 (from_whole a) (from_whole b) top.finite (from_whole_plus a) (positive_whole (from_whole b) b (whole_parts b (omega arith)) B) in
      root_answers_finite quotient (root_of quotient) (div-fits binary64 (from_whole a) (from_whole b))
      (root_answered quotient (is_true (is_finite quotient) quotient_within.finite) (no_minus_of_plus quotient p))

module _ (n s q : ℕ) where
  some_pairs : 2 ≤ n → 0 < n * (n - 1)
  some_pairs h = mul-pos {m = n} {n = n - 1} (omega arith) (omega arith)

  some_more : 2 ≤ n → 0 < n * n * (n - 1)
  some_more h = mul-pos {m = n * n} {n = n - 1} (mul-pos {m = n} {n = n} (omega arith) (omega arith)) (omega arith)

  -- whatever the figures are
  pub spread_finite : is_finite (spread_of n s q) ≡ true
  unfolding spread_of
  spread_finite = by_flag (is_night n s q) refl
    where
      by_flag : (t : Bool) → is_night n s q ≡ t → is_finite (cond t (root_over (scatter n s q) (n * (n - 1))) operations.zero) ≡ true
      by_flag true e =
          let f = night_figures n s q e in
          root_over_finite (scatter n s q) (n * (n - 1)) (omega (arith, f.times)) (some_pairs f.two) (omega (arith, f.divisor))
      by_flag false e = is_true (is_finite operations.zero) finite_zero

  pub mean_error_finite : is_finite (mean_error n s q) ≡ true
  unfolding mean_error
  mean_error_finite = by_flag (is_night n s q) refl
    where
      by_flag : (t : Bool) → is_night n s q ≡ t → is_finite (cond t (root_over (scatter n s q) (n * n * (n - 1))) operations.zero) ≡ true
      by_flag true e =
          let f = night_figures n s q e in
          root_over_finite (scatter n s q) (n * n * (n - 1)) (omega (arith, f.times)) (some_more f.two) f.divisors
      by_flag false e = is_true (is_finite operations.zero) finite_zero
