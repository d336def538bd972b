-- Sine and cosine of an angle up to 400000.0 in size are 1 at most in size; up to 1.57 the cosine is above zero, so that the
-- tangent is finite.
use Rattle.std.proofs.Common.{sym}
use Rattle.std.proofs.Math.Path.{subst}
use Rattle.std.proofs.Math.Logic.{inl, inr}
use Rattle.std.specs.Prelude.{ℕ, suc, ◌%◌, Bool, true, false, Float}
use Rattle.std.specs.Float.{binary64}
use Rattle.std.specs.Float.Ieee.{round, neg, add, sub, mul, div, le, of_bits}
use Rattle.double.specs.rules.Operations.{zero, one, two, ◌⊕◌, ◌⊖◌, ◌⊗◌, ◌⊘◌}
use Rattle.double.specs.rules.Sign.{bears_minus, negated_if, size, is_finite}
use Rattle.double.specs.rules.Order.{◌≼◌, NonZero, Finite, Between}
use Rattle.double.specs.rules.Table.{over, minus_over}
use Rattle.double.specs.notions.Range.{Expr, known, con, ◌⊞◌, ◌⊟◌, ◌⊠◌, ◌⧄◌, horner_expr}
use Rattle.double.specs.laws.Sign.{neg_neg}
use Rattle.double.specs.laws.Order.{le_trans}
use Rattle.double.specs.laws.Between.{nonzero_of_positive, between_neg, between_cut, between→size, size_between}
use Rattle.double.specs.laws.Interval.{bounded}
use Rattle.quantity.specs.declared.Rad.{Rad}
use Rattle.quantity.specs.rules.Refusal.{steepest}
use Rattle.elementary.specs.rules.Fold.{fold, quarters, rest}
use Rattle.elementary.specs.rules.Series.{horner, sine_last, sine_entries, sine_series, cosine_last, cosine_entries, cosine_series}
use Rattle.elementary.specs.rules.Sine.{sine_quarter, cosine_quarter, folded_sine, folded_cosine, sine_of, cosine_of, tangent_of, farthest_alone}
use Rattle.elementary.specs.laws.Fold.{rest_at_most_one, fold_steep}

-- ---- the series

abbrev pub sine_expr : Expr → Expr
sine_expr r = let z = r ⊠ r in r ⊞ (r ⊠ z) ⊠ horner_expr z (con sine_last) sine_entries

-- over z = r·r
abbrev pub cosine_expr : Expr → Expr
cosine_expr z = (con one ⊟ z ⧄ con two) ⊞ (z ⊠ z) ⊠ horner_expr z (con cosine_last) cosine_entries

sine_series_one : (r : Float) → Between (neg one) one r → Between (neg one) one (sine_series r)
unfolding is_finite le neg add mul of_bits
sine_series_one r i =
    elim (between_cut zero tt i) [
      | inl j ↦ bounded binary64 (neg one) one (sine_expr (known j)) tt
      | inr j ↦ bounded binary64 (neg one) one (sine_expr (known j)) tt
    ]

pub square_one : (r : Float) → Between (neg one) one r → Between zero one (r ⊗ r)
unfolding is_finite le neg mul of_bits
square_one r i =
    elim (between_cut zero tt i) [
      | inl j ↦ bounded binary64 zero one (known j ⊠ known j) tt
      | inr j ↦ bounded binary64 zero one (known j ⊠ known j) tt
    ]

-- Where z lies from a to b the term z·z·p is smaller than z/2 as soon as b²/12 < a; below 2^−26 it is lost in rounding.
cosine_sum_one : (z : Float) → Between zero one z → Between (neg one) one ((one ⊖ z ⊘ two) ⊕ (z ⊗ z) ⊗ horner z cosine_last cosine_entries)
unfolding is_finite le neg add sub mul div of_bits round
cosine_sum_one z i =
    elim (between_cut (over 1 67108864) tt i) [
      | inl j ↦ bounded binary64 (neg one) one (cosine_expr (known j)) tt
      | inr i ↦
          elim (between_cut (over 1 2097152) tt i) [
            | inl j ↦ bounded binary64 (neg one) one (cosine_expr (known j)) tt
            | inr i ↦
                elim (between_cut (over 1 512) tt i) [
                  | inl j ↦ bounded binary64 (neg one) one (cosine_expr (known j)) tt
                  | inr i ↦
                      elim (between_cut (over 1 8) tt i) [
                        | inl j ↦ bounded binary64 (neg one) one (cosine_expr (known j)) tt
                        | inr j ↦ bounded binary64 (neg one) one (cosine_expr (known j)) tt
                      ]
                ]
          ]
    ]

cosine_series_one : (r : Float) → Between (neg one) one r → Between (neg one) one (cosine_series r)
cosine_series_one r i = cosine_sum_one (r ⊗ r) (square_one r i)

-- ---- the four quarters, and the sign

opposite_one : (v : Float) → Between (neg one) one v → Between (neg one) one (neg v)
opposite_one v i = subst (λ (b : Float). Between (neg one) b (neg v)) (neg_neg one) (between_neg i)

sine_quarter_one : (q : ℕ) (r : Float) → Between (neg one) one r → Between (neg one) one (sine_quarter q r)
sine_quarter_one ℕ.zero r i = sine_series_one r i
sine_quarter_one (suc ℕ.zero) r i = cosine_series_one r i
sine_quarter_one (suc (suc ℕ.zero)) r i = opposite_one (sine_series r) (sine_series_one r i)
sine_quarter_one (suc (suc (suc k))) r i = opposite_one (cosine_series r) (cosine_series_one r i)

cosine_quarter_one : (q : ℕ) (r : Float) → Between (neg one) one r → Between (neg one) one (cosine_quarter q r)
cosine_quarter_one ℕ.zero r i = cosine_series_one r i
cosine_quarter_one (suc ℕ.zero) r i = opposite_one (sine_series r) (sine_series_one r i)
cosine_quarter_one (suc (suc ℕ.zero)) r i = opposite_one (cosine_series r) (cosine_series_one r i)
cosine_quarter_one (suc (suc (suc k))) r i = sine_series_one r i

negated_one : (s : Bool) (v : Float) → Between (neg one) one v → Between (neg one) one (negated_if s v)
negated_one true v i = opposite_one v i
negated_one false v i = i

-- ---- up to 400000.0

pub sine_between : (x : Rad) → size x.0 ≼ farthest_alone → Between (neg one) one (sine_of x)
unfolding fold folded_sine
sine_between x h =
    let a = size x.0 in
    negated_one (bears_minus x.0) (sine_quarter (quarters a % 4) (rest a))
    (sine_quarter_one (quarters a % 4) (rest a) (rest_at_most_one x.0 h))

pub cosine_between : (x : Rad) → size x.0 ≼ farthest_alone → Between (neg one) one (cosine_of x)
unfolding fold folded_cosine
cosine_between x h =
    let a = size x.0 in
    cosine_quarter_one (quarters a % 4) (rest a) (rest_at_most_one x.0 h)

-- the sine is 1 at most in size
pub sine_at_most_one : (x : Rad) → size x.0 ≼ farthest_alone → size (sine_of x) ≼ one
sine_at_most_one x h = between→size one (sine_of x) (sine_between x h)

-- the cosine is 1 at most in size
pub cosine_at_most_one : (x : Rad) → size x.0 ≼ farthest_alone → size (cosine_of x) ≼ one
cosine_at_most_one x h = between→size one (cosine_of x) (cosine_between x h)

pub sine_finite : (x : Rad) → size x.0 ≼ farthest_alone → Finite (sine_of x)
sine_finite x h = (sine_between x h).finite

pub cosine_finite : (x : Rad) → size x.0 ≼ farthest_alone → Finite (cosine_of x)
cosine_finite x h = (cosine_between x h).finite

-- ---- up to 1.57

-- 2^−14
abbrev tiny : Float
tiny = over 1 16384

cosine_first : (r : Float) → Between zero (over 1609 2048) r → Between tiny two (cosine_series r)
unfolding is_finite le neg add sub mul div of_bits round
cosine_first r i = bounded binary64 tiny two (cosine_expr (known i ⊠ known i)) tt

-- in three pieces, on each of which the cube's term is smaller than the least size
sine_below_zero : (r : Float) → Between (minus_over 405 512) (minus_over 3 4096) r → Between (neg two) (neg tiny) (sine_series r)
unfolding is_finite le neg add mul of_bits round
sine_below_zero r i =
    elim (between_cut (minus_over 205 1024) tt i) [
      | inl j ↦ bounded binary64 (neg two) (neg tiny) (sine_expr (known j)) tt
      | inr i ↦
          elim (between_cut (minus_over 1 512) tt i) [
            | inl j ↦ bounded binary64 (neg two) (neg tiny) (sine_expr (known j)) tt
            | inr j ↦ bounded binary64 (neg two) (neg tiny) (sine_expr (known j)) tt
          ]
    ]

cosine_second : (r : Float) → Between (minus_over 405 512) (minus_over 3 4096) r → Between tiny two (neg (sine_series r))
cosine_second r i = rw (neg_neg two, neg_neg tiny) at (between_neg (sine_below_zero r i))

-- the cosine is at least 2^−14
pub cosine_steep : (x : Rad) → size x.0 ≼ steepest → Between (over 1 16384) two (cosine_of x)
unfolding fold folded_cosine
cosine_steep x h =
    let a = size x.0 in
    elim (fold_steep a (size_between x.0 steepest (unfold is_finite of_bits in tt) h)) [
      | inl i ↦ subst (λ (n : ℕ). Between tiny two (cosine_quarter (n % 4) (rest a))) (sym i.0) (cosine_first (rest a) i.1)
      | inr i ↦ subst (λ (n : ℕ). Between tiny two (cosine_quarter (n % 4) (rest a))) (sym i.0) (cosine_second (rest a) i.1)
    ]

-- the cosine is not zero
pub cosine_not_zero : (x : Rad) → size x.0 ≼ steepest → NonZero (cosine_of x)
cosine_not_zero x h = nonzero_of_positive tiny (cosine_of x) (unfold round in tt) (cosine_steep x h).from

pub tangent_between : (x : Rad) → size x.0 ≼ steepest → Between (neg (over 16384 1)) (over 16384 1) (tangent_of x)
unfolding is_finite le neg div of_bits round
tangent_between x h =
    let far = le_trans (size x.0) steepest farthest_alone h tt in
    bounded binary64 (neg (over 16384 1)) (over 16384 1) (known (sine_between x far) ⧄ known (cosine_steep x h)) tt

-- the tangent is finite
pub tangent_finite : (x : Rad) → size x.0 ≼ steepest → Finite (tangent_of x)
tangent_finite x h = (tangent_between x h).finite
