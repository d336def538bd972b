-- The cosine of an angle up to 80.0 in size is 2^−100 at least in size, so that it is never zero; up to half a turn its sign is known.
use Rattle.std.specs.Prelude.{ℕ, zero, suc, ◌%◌, ◌^◌, ◌≤◌, ◌<◌, ◌≡◌, ◌⊎◌, Bool, ◌&&◌, T, leb, Float}
use Rattle.std.proofs.Math.Nat.{le_trans as le-trans-ℕ}
use Rattle.std.proofs.Common.{le_of_suc-le-suc, eq-or-lt_of_le, arith, ◌∙◌, subst, inl, inr, leb→le}
use Rattle.std.proofs.Math.Path.{refl, sym}
use Rattle.std.proofs.Math.Bool.{true, false, not}
use Rattle.std.proofs.Math.Dec.{lit≤}
use Rattle.std.specs.Float.{binary64}
use Rattle.std.specs.Float.Ieee.{neg, add, sub, mul, div, le, of_bits, of_int, to_unsigned, round}
use Rattle.std.specs.Float.Ieee.Fits.{and_l, and_r, sub-fits}
use Rattle.std.specs.Float.Ieee.Positive.{positive}
use Rattle.double.specs.rules.Operations as operations
use Rattle.double.specs.rules.Operations.{half, one, two, ◌⊕◌, ◌⊖◌, ◌⊗◌}
use Rattle.double.specs.rules.Sign.{bears_minus, size, is_finite}
use Rattle.double.specs.rules.Order.{◌≼◌, NonZero, Between}
use Rattle.double.specs.rules.Whole.{whole_part, from_whole}
use Rattle.double.specs.rules.Table.{over, minus_over}
use Rattle.double.specs.notions.Range.{Expr, known, con, ◌⊞◌, ◌⊟◌, ◌⊠◌, value, range, inside}
use Rattle.double.specs.laws.Order.{le_trans, neg_le}
use Rattle.double.specs.laws.Zero.{zero_neg}
use Rattle.double.specs.laws.Sign.{neg_neg, minus_neg, no_minus_of_plus}
use Rattle.double.specs.laws.Between.{between, between_neg, between_cut, size_between, plus_of_positive, nonzero_of_positive}
use Rattle.double.specs.laws.Interval.{bounded}
use Rattle.double.specs.laws.WholePart.{whole_part_mono}
use Rattle.quantity.specs.declared.Rad.{Rad}
use Rattle.quantity.specs.rules.Angle.{HALF, PI}
use Rattle.quantity.specs.rules.Refusal.{farthest, angle_refusal, latitude_refusal}
use Rattle.elementary.specs.rules.Fold.{I, P1, P2, P3, fold, quarters, rest}
use Rattle.elementary.specs.rules.Series.{sine_series, cosine_series}
use Rattle.elementary.specs.rules.Sine.{cosine_quarter, folded_cosine, cosine_of, farthest_alone}
use Rattle.quantity.specs.laws.Accepted.{angle_accepted, latitude_accepted}
use Rattle.elementary.specs.laws.Fold.{rest_at_most_one}
use Rattle.elementary.specs.laws.Sine.{sine_expr, cosine_expr, square_one}
use Rattle.domain_accepted.specs.notions.Away.{away, Away, past_half, step_at, point_at, last_below, first_above, full_length, within_reach}
use Rattle.domain_accepted.specs.notions.Away.{stays_below, stays_above, sides_apart, keeps_away, all_below}
use Rattle.domain_accepted.specs.laws.Neighbours.{neighbours}

-- ---- the series

-- in pieces, on each of which the cube's term is smaller than the least size
sine_above : (r : Float) → Between away one r → Between away two (sine_series r)
unfolding is_finite le neg add mul of_bits round
sine_above r i =
    elim (between_cut (over 1 4) tt i) [
      | inr j ↦ bounded binary64 away two (sine_expr (known j)) tt
      | inl i ↦
          elim (between_cut (over 1 256) tt i) [
            | inr j ↦ bounded binary64 away two (sine_expr (known j)) tt
            | inl i ↦
                elim (between_cut (over 1 1048576) tt i) [
                  | inr j ↦ bounded binary64 away two (sine_expr (known j)) tt
                  | inl i ↦
                      elim (between_cut (over 1 1152921504606846976) tt i) [
                        | inr j ↦ bounded binary64 away two (sine_expr (known j)) tt
                        | inl j ↦ bounded binary64 away two (sine_expr (known j)) tt
                      ]
                ]
          ]
    ]

sine_below : (r : Float) → Between (neg one) (neg away) r → Between (neg two) (neg away) (sine_series r)
unfolding is_finite le neg add mul of_bits round
sine_below r i =
    elim (between_cut (minus_over 1 4) tt i) [
      | inl j ↦ bounded binary64 (neg two) (neg away) (sine_expr (known j)) tt
      | inr i ↦
          elim (between_cut (minus_over 1 256) tt i) [
            | inl j ↦ bounded binary64 (neg two) (neg away) (sine_expr (known j)) tt
            | inr i ↦
                elim (between_cut (minus_over 1 1048576) tt i) [
                  | inl j ↦ bounded binary64 (neg two) (neg away) (sine_expr (known j)) tt
                  | inr i ↦
                      elim (between_cut (minus_over 1 1152921504606846976) tt i) [
                        | inl j ↦ bounded binary64 (neg two) (neg away) (sine_expr (known j)) tt
                        | inr j ↦ bounded binary64 (neg two) (neg away) (sine_expr (known j)) tt
                      ]
                ]
          ]
    ]

cosine_above : (r : Float) → Between (neg one) one r → Between away two (cosine_series r)
unfolding is_finite le neg add sub mul div of_bits round
cosine_above r i = bounded binary64 away two (cosine_expr (known (square_one r i))) tt

-- ---- the rest after an odd number of quarters

abbrev rest_at : ℕ → Float → Float
rest_at n a = ((a ⊖ from_whole n ⊗ P1) ⊖ from_whole n ⊗ P2) ⊖ from_whole n ⊗ P3

module _ (n : ℕ) (a : Float) (i : Between operations.zero (over 80 1) a) where
  abbrev less_first : Float
  less_first = a ⊖ from_whole n ⊗ P1

  abbrev less_rest : Expr → Expr
  less_rest z = (z ⊟ con (from_whole n ⊗ P2)) ⊟ con (from_whole n ⊗ P3)

  rest_away : T (sides_apart n) → Between (neg one) one (rest_at n a)
      → Between (neg one) (neg away) (rest_at n a) ⊎ Between away one (rest_at n a)
  rest_away t r =
      let digits = leb (2 ^ 52) (point_at n) in
      let ends = is_finite (last_below n) && is_finite (first_above n) in
      let long = and_l (full_length n) (within_reach n && (stays_below n && stays_above n)) t in
      let t1 = and_r (full_length n) (within_reach n && (stays_below n && stays_above n)) t in
      let t2 = and_r (within_reach n) (stays_below n && stays_above n) t1 in
      let least = leb→le (2 ^ 52) (point_at n) (and_l digits ends long) in
      let finite = and_r digits ends long in
      let z : Between (minus_over 128 1) (over 128 1) less_first =
      bounded binary64 (minus_over 128 1) (over 128 1) (known i ⊟ con (from_whole n ⊗ P1))
      (and_l (within_reach n) (stays_below n && stays_above n) t1) in
      elim (neighbours (step_at n) (point_at n) least less_first (sub-fits binary64 a (from_whole n ⊗ P1)) z.finite) [
        | inl h ↦
            let j = between z.start (and_l (is_finite (last_below n)) (is_finite (first_above n)) finite) z.from h in
            let k : Between (minus_over 256 1) (neg away) (rest_at n a) =
            bounded binary64 (minus_over 256 1) (neg away) (less_rest (known j)) (and_l (stays_below n) (stays_above n) t2) in
            inl (between r.start k.end r.from k.to)
        | inr h ↦
            let j = between (and_r (is_finite (last_below n)) (is_finite (first_above n)) finite) z.end h z.to in
            let k : Between away (over 256 1) (rest_at n a) =
            bounded binary64 away (over 256 1) (less_rest (known j)) (and_r (stays_below n) (stays_above n) t2) in
            inr (between k.start r.end k.from r.to)
      ]

-- ---- the four quarters

opposite_away : (v : Float) → Away v → Away (neg v)
opposite_away v (inl i) = inr (rw (neg_neg two, neg_neg away) at (between_neg i))
opposite_away v (inr i) = inl (between_neg i)

sine_away : (r : Float) → Between (neg one) (neg away) r ⊎ Between away one r → Away (sine_series r)
sine_away r (inl i) = inl (sine_below r i)
sine_away r (inr i) = inr (sine_above r i)

quarter_away : (n q : ℕ) (a : Float) → Between operations.zero (over 80 1) a → T (keeps_away n q)
    → Between (neg one) one (rest_at n a) → Away (cosine_quarter q (rest_at n a))
quarter_away n zero a i t r = inr (cosine_above (rest_at n a) r)
quarter_away n (suc zero) a i t r = opposite_away (sine_series (rest_at n a)) (sine_away (rest_at n a) (rest_away n a i t r))
quarter_away n (suc (suc zero)) a i t r = opposite_away (cosine_series (rest_at n a)) (inr (cosine_above (rest_at n a) r))
quarter_away n (suc (suc (suc q))) a i t r = sine_away (rest_at n a) (rest_away n a i t r)

-- ---- every number of quarters up to 51, of which 80.0 is less than half a quarter more

quarters_at_most : (a : Float) → Between operations.zero (over 80 1) a → quarters a ≤ 51
unfolding is_finite le mul add of_bits round
quarters_at_most a i =
    let s = bounded binary64 half (over 103 2) (known i ⊠ con I ⊞ con half) tt in
    le-trans-ℕ (whole_part_mono (a ⊗ I ⊕ half) (over 103 2) s.finite s.end tt s.to) (unfold to_unsigned in lit≤ tt)

tested : (m n : ℕ) (test : ℕ → Bool) → n < m → T (all_below m test) → T (test n)
tested zero n test h t = absurd (omega arith)
tested (suc m) n test h t =
    elim (eq-or-lt_of_le (le_of_suc-le-suc h)) [
      | inl e ↦ subst (λ (k : ℕ). T (test k)) (sym e) (and_l (test m) (all_below m test) t)
      | inr l ↦ tested m n test l (and_r (test m) (all_below m test) t)
    ]

all_away : T (all_below 52 (λ n. keeps_away n (n % 4)))
unfolding is_finite le neg add sub mul of_bits of_int round
all_away = tt

pub cosine_away : (x : Rad) → size x.0 ≼ over 80 1 → Away (cosine_of x)
unfolding fold folded_cosine
cosine_away x h =
    let a = size x.0 in
    let i = size_between x.0 (over 80 1) (unfold is_finite round in tt) h in
    let k = quarters_at_most a i in
    quarter_away (quarters a) (quarters a % 4) a i (tested 52 (quarters a) (λ n. keeps_away n (n % 4)) (omega arith) all_away)
    (rest_at_most_one x.0 (le_trans a (over 80 1) farthest_alone h (unfold le of_bits round in tt)))

-- ---- so it is not zero

not_zero_of : (c v : Float) → T (positive c) → (v ≼ neg c) ⊎ (c ≼ v) → NonZero v
not_zero_of c v p (inl h) = rw (zero_neg v) at (nonzero_of_positive c (neg v) p (rw (neg_neg c) at (neg_le v (neg c) h)))
not_zero_of c v p (inr h) = nonzero_of_positive c v p h

pub away_not_zero : (v : Float) → Away v → NonZero v
away_not_zero v (inl i) = not_zero_of away v (unfold round in tt) (inl i.to)
away_not_zero v (inr i) = not_zero_of away v (unfold round in tt) (inr i.from)

pub angle_away : (x : Rad) → angle_refusal x ≡ 0 → Away (cosine_of x)
unfolding le of_bits round
angle_away x none = cosine_away x (le_trans (size x.0) farthest (over 80 1) (angle_accepted x none) tt)

pub latitude_away : (x : Rad) → latitude_refusal x ≡ 0 → Away (cosine_of x)
unfolding le of_bits round
latitude_away x none = cosine_away x (le_trans (size x.0) HALF (over 80 1) (latitude_accepted x none) tt)

-- the cosine of an angle that is not refused
pub cosine_never_zero : (x : Rad) → angle_refusal x ≡ 0 → NonZero (cosine_of x)
cosine_never_zero x none = away_not_zero (cosine_of x) (angle_away x none)

-- nor is a product of two numbers away from zero
abbrev least : Float
least = over 1 (2 ^ 200)

pub product_not_zero : (v w : Float) → Away v → Away w → NonZero (v ⊗ w)
unfolding is_finite le neg mul of_bits round
product_not_zero v w i j = not_zero_of least (v ⊗ w) tt (by-signs i j)
  where
    above : (e : Expr) → T (inside least (over 4 1) (range binary64 e)) → least ≼ value binary64 e
    above e t = (bounded binary64 least (over 4 1) e t).from

    below : (e : Expr) → T (inside (minus_over 4 1) (neg least) (range binary64 e)) → value binary64 e ≼ neg least
    below e t = (bounded binary64 (minus_over 4 1) (neg least) e t).to

    by-signs : Away v → Away w → (v ⊗ w ≼ neg least) ⊎ (least ≼ v ⊗ w)
    by-signs (inl i) (inl j) = inr (above (known i ⊠ known j) tt)
    by-signs (inl i) (inr j) = inl (below (known i ⊠ known j) tt)
    by-signs (inr i) (inl j) = inl (below (known i ⊠ known j) tt)
    by-signs (inr i) (inr j) = inr (above (known i ⊠ known j) tt)

-- ---- its sign: plus up to a quarter turn, minus from the next double on to half a turn

abbrev rest_expr : ℕ → Expr → Expr
rest_expr n a = ((a ⊟ con (from_whole n ⊗ P1)) ⊟ con (from_whole n ⊗ P2)) ⊟ con (from_whole n ⊗ P3)

ahead_at : (n : ℕ) (a : Float) → n ≤ 1 → Between operations.zero HALF a → Between (neg one) one (rest_at n a)
    → Between away two (cosine_quarter (n % 4) (rest_at n a))
unfolding is_finite le neg add sub mul of_bits of_int round
ahead_at zero a k i r = cosine_above (rest_at 0 a) r
ahead_at (suc zero) a k i r =
    let j = bounded binary64 (minus_over 256 1) (neg away) (rest_expr 1 (known i)) tt in
    rw (neg_neg two, neg_neg away) at (between_neg (sine_below (rest_at 1 a) (between r.start j.end r.from j.to)))
ahead_at (suc (suc n)) a k i r = absurd (omega arith)

behind_at : (n : ℕ) (a : Float) → 1 ≤ n → n ≤ 2 → Between past_half PI a → Between (neg one) one (rest_at n a)
    → Between (neg two) (neg away) (cosine_quarter (n % 4) (rest_at n a))
unfolding is_finite le neg add sub mul of_bits of_int round
behind_at zero a h k i r = absurd (omega arith)
behind_at (suc zero) a h k i r =
    let j = bounded binary64 away (over 256 1) (rest_expr 1 (known i)) tt in
    between_neg (sine_above (rest_at 1 a) (between j.start r.end j.from r.to))
behind_at (suc (suc zero)) a h k i r = between_neg (cosine_above (rest_at 2 a) r)
behind_at (suc (suc (suc n))) a h k i r = absurd (omega arith)

pub cosine_ahead : (x : Rad) → size x.0 ≼ HALF → bears_minus (cosine_of x) ≡ false
unfolding fold folded_cosine is_finite le mul add of_bits round
cosine_ahead x h =
    let a = size x.0 in
    let i = size_between x.0 HALF tt h in
    let s = bounded binary64 half (over 7 4) (known i ⊠ con I ⊞ con half) tt in
    let k : quarters a ≤ 1 = le-trans-ℕ (whole_part_mono (a ⊗ I ⊕ half) (over 7 4) s.finite s.end tt s.to) (unfold to_unsigned in lit≤ tt) in
    let c = ahead_at (quarters a) a k i (rest_at_most_one x.0 (le_trans a HALF farthest_alone h tt)) in
    no_minus_of_plus (cosine_of x) (plus_of_positive away (cosine_of x) tt c.from)

pub cosine_behind : (x : Rad) → past_half ≼ size x.0 → size x.0 ≼ PI → bears_minus (cosine_of x) ≡ true
unfolding fold folded_cosine is_finite le mul add of_bits round
cosine_behind x g h =
    let a = size x.0 in
    let i : Between past_half PI a = between tt tt g h in
    let s = bounded binary64 (over 5 4) (over 11 4) (known i ⊠ con I ⊞ con half) tt in
    let k : quarters a ≤ 2 = le-trans-ℕ (whole_part_mono (a ⊗ I ⊕ half) (over 11 4) s.finite s.end tt s.to) (unfold to_unsigned in lit≤ tt) in
    let one_more : 1 ≤ whole_part (over 5 4) = unfold to_unsigned in lit≤ tt in
    let m : 1 ≤ quarters a =
    le-trans-ℕ one_more
    (whole_part_mono (over 5 4) (a ⊗ I ⊕ half) s.start s.finite (plus_of_positive (over 5 4) (a ⊗ I ⊕ half) tt s.from) s.from) in
    let c = behind_at (quarters a) a m k i (rest_at_most_one x.0 (le_trans a PI farthest_alone h tt)) in
    let up = rw (neg_neg away) at (neg_le (cosine_of x) (neg away) c.to) in
    is_true (bears_minus (cosine_of x))
    (sym (minus_neg (cosine_of x) c.finite) ∙ no_minus_of_plus (neg (cosine_of x)) (plus_of_positive away (neg (cosine_of x)) tt up))
  where
    is_true : (b : Bool) → not b ≡ false → b ≡ true
    is_true true e = refl
    is_true false e = sym e
