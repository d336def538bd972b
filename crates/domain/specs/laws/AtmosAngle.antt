-- The angle that goes into refraction's tangent, of an altitude that is not refused: it is 1.57 at most, so that 4 is never met, and from
-- the least angle on the sine has the least bound that refraction needs.
use Rattle.std.specs.Prelude.{ℕ, ◌%◌, ◌≡◌, T, Float}
use Rattle.std.proofs.Common.{sym, lit<}
use Rattle.std.proofs.Math.Path.{subst}
use Rattle.std.proofs.Math.Logic.{inl, inr}
use Rattle.std.specs.Float.Ieee.{binary64, neg, add, sub, mul, div, le, of_bits, of_int, round}
use Rattle.std.specs.Float.Ieee.Positive.{positive}
use Rattle.double.specs.rules.Operations.{zero, one, two, ◌⊖◌, ◌⊗◌}
use Rattle.double.specs.rules.Sign.{size, is_finite}
use Rattle.double.specs.rules.Order.{◌≼◌, Finite, Between}
use Rattle.double.specs.rules.Whole.{from_whole}
use Rattle.double.specs.rules.Table.{over, minus_over}
use Rattle.double.specs.notions.Range.{Expr, known, con, ◌⊞◌, ◌⊟◌, ◌⊠◌, ◌⧄◌}
use Rattle.double.specs.laws.Sign.{size_plus, no_minus_of_plus}
use Rattle.double.specs.laws.Order.{le_trans}
use Rattle.double.specs.laws.Between.{between, between_cut, finite_zero, finite_one, zero_le_plus, plus_of_positive}
use Rattle.double.specs.laws.Interval.{bounded}
use Rattle.quantity.specs.declared.Deg.{Deg}
use Rattle.quantity.specs.declared.Rad.{Rad}
use Rattle.quantity.specs.rules.Answer.{answered}
use Rattle.quantity.specs.rules.Refusal.{steepest}
use Rattle.quantity.specs.laws.Refusal.{past_none}
use Rattle.elementary.specs.rules.Fold.{P1, P2, P3, fold}
use Rattle.elementary.specs.rules.Series.{sine_series, cosine_series}
use Rattle.elementary.specs.rules.Sine.{sine_quarter, folded_sine, sine_of, cosine_of, tangent_of, farthest_alone, tangent_rule}
use Rattle.quantity.specs.laws.Accepted.{outside_accepted}
use Rattle.elementary.specs.laws.Fold.{fold_steep}
use Rattle.elementary.specs.laws.Sine.{sine_expr, cosine_expr, sine_between, cosine_between, cosine_steep}
use Rattle.helpers.specs.rules.Angle.{degree, radians_of}
use Rattle.atmos.specs.rules.Numbers.{n7·31, n4·4, n10·3, n5·11, n89·8}
use Rattle.atmos.specs.rules.Refraction.{angle_frm_apprnt, angle_frm_true, alt_refusal}

-- ---- the angle that goes into the tangent

pub alt_accepted : (h : Deg) → alt_refusal h ≡ 0 → Between zero n89·8 h.0
unfolding alt_refusal is_finite of_bits
alt_accepted h none = outside_accepted h.0 zero n89·8 3 (lit< tt) tt tt none

-- the domain in pieces, on each of which the angle at one end is near that at the other
in_pieces : {R : Type 0} {x : Float} → Between zero n89·8 x
    → (Between zero (over 3 64) x → R)
    → (Between (over 3 64) (over 11 64) x → R)
    → (Between (over 11 64) (over 9 16) x → R)
    → (Between (over 9 16) two x → R)
    → (Between two (over 80 1) x → R)
    → (Between (over 80 1) n89·8 x → R)
    → R
unfolding is_finite of_bits round
in_pieces i p q r s t u =
    elim (between_cut (over 80 1) tt i) [
      | inr j ↦ u j
      | inl i ↦
          elim (between_cut two tt i) [
            | inr j ↦ t j
            | inl i ↦
                elim (between_cut (over 9 16) tt i) [
                  | inr j ↦ s j
                  | inl i ↦
                      elim (between_cut (over 11 64) tt i) [
                        | inr j ↦ r j
                        | inl i ↦ elim (between_cut (over 3 64) tt i) [ inr j ↦ q j | inl j ↦ p j ]
                      ]
                ]
          ]
    ]

-- h + n/(h + d), and what it is in radians
abbrev angle_expr : Float → Float → Expr → Expr
angle_expr n d h = (h ⊞ con n ⧄ (h ⊞ con d)) ⊠ con degree

-- the least angles: a little below those at altitude 0.0
abbrev pub least_apprnt : Float
least_apprnt = over 1876 65536

abbrev pub least_true : Float
least_true = over 2233 65536

module _ (h : Deg) (none : alt_refusal h ≡ 0) where
  pub apprnt_angle : Between least_apprnt steepest (radians_of (angle_frm_apprnt h)).0
  unfolding is_finite le neg add mul div of_bits round
  apprnt_angle =
      in_pieces (alt_accepted h none)
      (λ j. bounded binary64 least_apprnt steepest (angle_expr n7·31 n4·4 (known j)) tt)
      (λ j. bounded binary64 least_apprnt steepest (angle_expr n7·31 n4·4 (known j)) tt)
      (λ j. bounded binary64 least_apprnt steepest (angle_expr n7·31 n4·4 (known j)) tt)
      (λ j. bounded binary64 least_apprnt steepest (angle_expr n7·31 n4·4 (known j)) tt)
      (λ j. bounded binary64 least_apprnt steepest (angle_expr n7·31 n4·4 (known j)) tt)
      (λ j. bounded binary64 least_apprnt steepest (angle_expr n7·31 n4·4 (known j)) tt)

  pub true_angle : Between least_true steepest (radians_of (angle_frm_true h)).0
  unfolding is_finite le neg add mul div of_bits round
  true_angle =
      in_pieces (alt_accepted h none)
      (λ j. bounded binary64 least_true steepest (angle_expr n10·3 n5·11 (known j)) tt)
      (λ j. bounded binary64 least_true steepest (angle_expr n10·3 n5·11 (known j)) tt)
      (λ j. bounded binary64 least_true steepest (angle_expr n10·3 n5·11 (known j)) tt)
      (λ j. bounded binary64 least_true steepest (angle_expr n10·3 n5·11 (known j)) tt)
      (λ j. bounded binary64 least_true steepest (angle_expr n10·3 n5·11 (known j)) tt)
      (λ j. bounded binary64 least_true steepest (angle_expr n10·3 n5·11 (known j)) tt)

  -- 1.57 at most
  pub apprnt_angle_not_steep : (radians_of (angle_frm_apprnt h)).0 ≼ steepest
  apprnt_angle_not_steep = apprnt_angle.to

  pub true_angle_not_steep : (radians_of (angle_frm_true h)).0 ≼ steepest
  true_angle_not_steep = true_angle.to

-- ---- the tangent of an angle from a on

-- r where n quarters are taken away
abbrev rest_at : Float → ℕ → Float
rest_at x n = ((x ⊖ from_whole n ⊗ P1) ⊖ from_whole n ⊗ P2) ⊖ from_whole n ⊗ P3

-- and where none is
abbrev rest_expr : Expr → Expr
rest_expr x = let k = con (from_whole 0) in ((x ⊟ k ⊠ con P1) ⊟ k ⊠ con P2) ⊟ k ⊠ con P3

-- the sine from 1/16 on, in two pieces
sine_later : (r : Float) → Between (over 1 16) (over 1609 2048) r → Between (over 1 20) two (sine_series r)
unfolding is_finite le neg add mul of_bits round
sine_later r i =
    elim (between_cut (over 1 4) tt i) [
      | inl j ↦ bounded binary64 (over 1 20) two (sine_expr (known j)) tt
      | inr j ↦ bounded binary64 (over 1 20) two (sine_expr (known j)) tt
    ]

-- the sine after one quarter
cosine_then : (r : Float) → Between (minus_over 405 512) (minus_over 3 4096) r → Between (over 1 20) two (cosine_series r)
unfolding is_finite le neg add sub mul div of_bits round
cosine_then r i = bounded binary64 (over 1 20) two (cosine_expr (known i ⊠ known i)) tt

-- s bounds the sine of the first angles, up to 1/16
module _ (a s : Float) (A : T (positive a)) (small : s ≼ over 1 20)
    (kept : (x : Float) → Between a steepest x → a ≼ rest_at x 0)
    (first : (r : Float) → Between a (over 1 16) r → s ≼ sine_series r) where
  none_taken : (r : Float) → Between a (over 1609 2048) r → s ≼ sine_series r
  none_taken r i =
      elim (between_cut (over 1 16) (unfold is_finite round in tt) i) [
        | inl j ↦ first r j
        | inr j ↦ le_trans s (over 1 20) (sine_series r) small (sine_later r j).from
      ]

  -- at least s
  sine_from : (x : Rad) → Between a steepest x.0 → s ≼ sine_of x
  unfolding fold folded_sine
  sine_from x i =
      let P = plus_of_positive a x.0 A i.from in
      let zeroOn : Between zero steepest x.0 = between finite_zero i.end (zero_le_plus x.0 i.finite P) i.to in
      rw (no_minus_of_plus x.0 P, size_plus x.0 P)
      (elim (fold_steep x.0 zeroOn) [
        | inl j ↦
            let r = subst (λ (n : ℕ). Between zero (over 1609 2048) (rest_at x.0 n)) j.0 j.1 in
            subst (λ (n : ℕ). s ≼ sine_quarter (n % 4) (rest_at x.0 n)) (sym j.0)
            (none_taken (rest_at x.0 0) (between i.start r.end (kept x.0 i) r.to))
        | inr j ↦
            let r = subst (λ (n : ℕ). Between (minus_over 405 512) (minus_over 3 4096) (rest_at x.0 n)) j.0 j.1 in
            subst (λ (n : ℕ). s ≼ sine_quarter (n % 4) (rest_at x.0 n)) (sym j.0)
            (le_trans s (over 1 20) (cosine_series (rest_at x.0 1)) small (cosine_then (rest_at x.0 1) r).from)
      ])

-- the least sines, and so the least tangents, since no cosine exceeds 1
abbrev pub least_apprnt_sine : Float
least_apprnt_sine = over 1873 65536

abbrev pub least_true_sine : Float
least_true_sine = over 2230 65536

pub apprnt_sine : (x : Rad) → Between least_apprnt steepest x.0 → least_apprnt_sine ≼ sine_of x
unfolding is_finite le neg add sub mul of_bits of_int round
apprnt_sine =
    sine_from least_apprnt least_apprnt_sine tt tt
    (λ x i. (bounded binary64 least_apprnt two (rest_expr (known i)) tt).from)
    (λ r i. (bounded binary64 least_apprnt_sine two (sine_expr (known i)) tt).from)

pub true_sine : (x : Rad) → Between least_true steepest x.0 → least_true_sine ≼ sine_of x
unfolding is_finite le neg add sub mul of_bits of_int round
true_sine =
    sine_from least_true least_true_sine tt tt
    (λ x i. (bounded binary64 least_true two (rest_expr (known i)) tt).from)
    (λ r i. (bounded binary64 least_true_sine two (sine_expr (known i)) tt).from)

module _ (a : Float) (A : T (positive a)) (x : Rad) (i : Between a steepest x.0) where
  not_steep : size x.0 ≼ steepest
  not_steep = rw (size_plus x.0 (plus_of_positive a x.0 A i.from)) i.to

  not_far : size x.0 ≼ farthest_alone
  not_far = le_trans (size x.0) steepest farthest_alone not_steep (unfold le of_bits in tt)

  -- the tangent called alone answers there
  tangent_answered : tangent_rule x ≡ answered (tangent_of x)
  unfolding tangent_rule
  tangent_answered =
      rw (
        past_none x.0 farthest_alone 3 (unfold is_finite of_bits in tt) not_far,
        past_none x.0 steepest 4 i.end not_steep,
      )

  pub sine_up_to_one : (s : Float) → Finite s → s ≼ sine_of x → Between s one (sine_of x)
  sine_up_to_one s S h = between S finite_one h (sine_between x not_far).to

  pub cosine_up_to_one : Between (over 1 16384) one (cosine_of x)
  cosine_up_to_one = between (cosine_steep x not_steep).start finite_one (cosine_steep x not_steep).from (cosine_between x not_far).to

-- so 4 is never met
module _ (h : Deg) (none : alt_refusal h ≡ 0) where
  pub apprnt_tangent_answered : tangent_rule (radians_of (angle_frm_apprnt h)) ≡ answered (tangent_of (radians_of (angle_frm_apprnt h)))
  apprnt_tangent_answered = tangent_answered least_apprnt (unfold round in tt) (radians_of (angle_frm_apprnt h)) (apprnt_angle h none)

  pub true_tangent_answered : tangent_rule (radians_of (angle_frm_true h)) ≡ answered (tangent_of (radians_of (angle_frm_true h)))
  true_tangent_answered = tangent_answered least_true (unfold round in tt) (radians_of (angle_frm_true h)) (true_angle h none)
