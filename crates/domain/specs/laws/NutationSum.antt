-- Nutation on a day that is not refused: each row's argument stays far below 400000.0, and both sums are up to 1.0 degree in size.
use Rattle.std.specs.Prelude.{ℕ, ◌≡◌, T, Float}
use mathlib.Core.List.{List, [], ◌∷◌}
use Rattle.std.specs.Float.Ieee.{binary64, neg, add, mul, div, le, of_bits, of_int, round}
use Rattle.std.specs.Float.Ieee.Fits.{and_l, and_r}
use Rattle.double.specs.rules.Operations.{zero, one, ◌⊕◌}
use Rattle.double.specs.rules.Sign.{is_finite, size}
use Rattle.double.specs.rules.Order.{◌≼◌, Between}
use Rattle.double.specs.rules.Table.{over}
use Rattle.double.specs.notions.Range.{Range, unknown, ◌to◌, In, add_range, inside, Expr, known, con, ◌⊞◌, ◌⊠◌, ◌⧄◌}
use Rattle.double.specs.laws.Between.{between_itself}
use Rattle.double.specs.laws.Interval.{sound}
use Rattle.quantity.specs.rules.Answer.{answered, refused, Pair, pair}
use Rattle.quantity.specs.rules.Refusal.{day_refusal}
use Rattle.elementary.specs.rules.Sine.{sine_of, cosine_of, farthest_alone}
use Rattle.helpers.specs.rules.Angle.{degree}
use Rattle.helpers.specs.rules.Time.{century_of}
use Rattle.nutation_args.specs.declared.Sums.{Sums}
use Rattle.nutation_args.specs.rules.Numbers.{n10}
use Rattle.nutation_args.specs.rules.Arguments.{moon_of}
use Rattle.nutation_table.specs.rules.Rows.{rows}
use Rattle.nutation_args.specs.rules.Sum.{whole, argument_of, unit, share, with_row, summed, none, converted}
use Rattle.nutation_table.specs.rules.Day.{nutation_of}
use Rattle.nutation.specs.rules.Day.{nutation_rule}
use Rattle.domain_accepted.specs.notions.Outcome.{Outcome, Never}
use Rattle.domain_accepted.specs.notions.Within.{Within, BothFinite, BothWithin}
use Rattle.domain.specs.notions.Nutation.{Moon, Row, EachRow, MoonNear, argument_range, arguments_near, share_range, long_range, oblq_range}
use Rattle.domain_accepted.specs.laws.Outcome.{outcome_answered, rule_answers, rule_refuses}
use Rattle.domain_accepted.specs.laws.Near.{within, near_far, near_sine, near_cosine}
use Rattle.domain.specs.laws.Days.{century_within}
use Rattle.domain.specs.laws.Ranges.{in_inside}
use Rattle.domain.specs.laws.NutationArguments.{moon_near}

-- ---- one row

module _ (a : Moon) (A : MoonNear a) where
  argument_within : (x : Row) → T (inside (neg (over 2048 1)) (over 2048 1) (argument_range x)) → Within 2048 (argument_of x a).0
  argument_within x t =
      within 2048
      (con (whole x.0) ⊠ known A.d ⊞ con (whole x.1) ⊠ known A.m ⊞ con (whole x.2) ⊠ known A.m1 ⊞ con (whole x.3) ⊠ known A.f
      ⊞ con (whole x.4) ⊠ known A.node) t

  abbrev share_expr : (c d : Float) {v : Float} → Between (neg one) one v → Expr
  share_expr c d W = (con c ⊞ known A.t ⊠ con d ⧄ con n10) ⊠ known W ⊠ con unit

  -- a sum in r, with a share added
  added : (r : Range) (s c d v : Float) → In r s → Between (neg one) one v
      → In (add_range binary64 r (share_range c d)) (s ⊕ (share c d v a.t).0)
  added unknown s c d v i W = tt
  added (lo to hi) s c d v i W = sound binary64 (known i ⊞ share_expr c d W)

  -- ---- all rows

  summed_in : (xs : List Row) (s : Sums) (r q : Range) → T (arguments_near xs) → In r s.long.0 → In q s.oblq.0
      → In (long_range xs r) (summed xs a s).long.0 × In (oblq_range xs q) (summed xs a s).oblq.0
  unfolding summed with_row
  summed_in [] s r q t i j = (i, j)
  summed_in (x ∷ xs) s r q t i j =
      let here = inside (neg (over 2048 1)) (over 2048 1) (argument_range x) in
      let N = argument_within x (and_l here (arguments_near xs) t) in
      let L = share_range (whole x.5) (whole x.6) in
      let O = share_range (whole x.7) (whole x.8) in
      summed_in xs (with_row x a s) (add_range binary64 r L) (add_range binary64 q O) (and_r here (arguments_near xs) t)
      (added r s.long.0 (whole x.5) (whole x.6) (sine_of (argument_of x a)) i (near_sine (argument_of x a) N))
      (added q s.oblq.0 (whole x.7) (whole x.8) (cosine_of (argument_of x a)) j (near_cosine (argument_of x a) N))

summed_between : (a : Moon) → MoonNear a → (xs : List Row) (s : Sums) (r : Range) → T (arguments_near xs)
    → In r s.long.0 → In r s.oblq.0
    → (lo hi : Float) → T (inside lo hi (long_range xs r)) → T (inside lo hi (oblq_range xs r))
    → Between lo hi (summed xs a s).long.0 × Between lo hi (summed xs a s).oblq.0
summed_between a A xs s r t i j lo hi u w =
    let k = summed_in a A xs s r r t i j in
    (in_inside lo hi (long_range xs r) (summed xs a s).long.0 u k.0, in_inside lo hi (oblq_range xs r) (summed xs a s).oblq.0 w k.1)

arguments_far_lem : (a : Moon) → MoonNear a → (xs : List Row) → T (arguments_near xs)
    → EachRow (λ (x : Row). size (argument_of x a).0 ≼ farthest_alone) xs
arguments_far_lem a A [] t = tt
arguments_far_lem a A (x ∷ xs) t =
    let here = inside (neg (over 2048 1)) (over 2048 1) (argument_range x) in
    (near_far (argument_of x a).0 (argument_within a A x (and_l here (arguments_near xs) t)), arguments_far_lem a A xs (and_r here (arguments_near xs) t))

-- ---- the table

rows_near : T (arguments_near rows)
unfolding is_finite le neg add mul of_int round
rows_near = tt

long_degree : T (inside (neg one) one (long_range rows (zero to zero)))
unfolding is_finite le neg add mul div of_bits of_int round
long_degree = tt

oblq_degree : T (inside (neg one) one (oblq_range rows (zero to zero)))
unfolding is_finite le neg add mul div of_bits of_int round
oblq_degree = tt

-- ---- on a day

module _ (day : Float) (accepted : day_refusal day ≡ 0) where
  abbrev moon : Moon
  moon = moon_of (century_of day)

  near : MoonNear moon
  near = moon_near (century_of day) (century_within day accepted)

  -- each row's argument goes into a sine
  pub row_arguments_far : EachRow (λ (x : Row). size (argument_of x moon).0 ≼ farthest_alone) rows
  row_arguments_far = arguments_far_lem moon near rows rows_near

  pub sums_between : Between (neg one) one (summed rows moon none).long.0 × Between (neg one) one (summed rows moon none).oblq.0
  sums_between =
      let z : Between zero zero zero = between_itself {c = zero} (unfold is_finite of_bits in tt) in
      summed_between moon near rows none (zero to zero) rows_near z z (neg one) one long_degree oblq_degree

  pub nutation_outcome : Outcome (BothWithin 1) Never (answered (pair (nutation_of day).long.0 (nutation_of day).oblq.0))
  unfolding nutation_of converted is_finite le neg mul of_bits round
  nutation_outcome =
      outcome_answered (pair (nutation_of day).long.0 (nutation_of day).oblq.0)
      (within 1 (known sums_between.0 ⊠ con degree) tt, within 1 (known sums_between.1 ⊠ con degree) tt)

pub nutation_answers : (day : Float) (v : Pair) → nutation_rule day ≡ answered v → BothWithin 1 v
unfolding nutation_rule
nutation_answers day =
    rule_answers (day_refusal day) (answered (pair (nutation_of day).long.0 (nutation_of day).oblq.0))
    (nutation_outcome day)

pub nutation_finite : (day : Float) (v : Pair) → nutation_rule day ≡ answered v → BothFinite v
nutation_finite day v e =
    let i = nutation_answers day v e in
    (i.0.finite, i.1.finite)

pub nutation_refuses : (day : Float) → day_refusal day ≡ 0 → (n : ℕ) → nutation_rule day ≡ refused n → ⊥
unfolding nutation_rule
nutation_refuses day =
    rule_refuses (day_refusal day) (answered (pair (nutation_of day).long.0 (nutation_of day).oblq.0))
    (nutation_outcome day)
