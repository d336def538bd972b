-- The mean lies within 1000.1 seconds of its reference on the circle, exactly; and the means from two references of one set within 4001.
use Rattle.std.specs.Prelude.{◌≡◌, ◌⊎◌, Bool, true, false, not, cond, List, ℕ, zero, suc, ◌+◌, ◌-◌, ◌*◌, ◌%◌, ◌≤◌, ◌<◌, get_or}
use Rattle.std.proofs.Math.Path.{refl}
use Rattle.std.proofs.Common.{sym, ap, subst, ◌∙◌, inl, inr, true≢false, div-add-mod', mod-lt, arith}
use Rattle.std.proofs.Math.Dec.{T}
use Rattle.std.specs.Float.Ieee.{Float, binary64, neg, lt, fits, of_bits}
use Rattle.std.specs.Float.{nan, inf, fin}
use Rattle.std.specs.Float.Ieee.Bits.{is_true, of_bits-fits}
use Rattle.std.specs.Float.Ieee.Fits.{add-fits, div-fits, rem-fits}
use Rattle.double.specs.rules.Operations as operations
use Rattle.double.specs.rules.Operations.{◌⊕◌}
use Rattle.double.specs.rules.Sign.{is_finite, bears_minus}
use Rattle.double.specs.rules.Order.{Finite, Between}
use Rattle.double.specs.rules.Count.{count}
use Rattle.double.specs.laws.Tests.{by_test, holds, fails}
use Rattle.double.specs.laws.Numbers.{less_or_not}
use Rattle.double.specs.laws.Order.{le_of_lt, le_of_not_lt, not_lt_of_le}
use Rattle.double.specs.laws.Between.{zero_le_plus}
use Rattle.quantity.specs.declared.Deg.{Deg}
use Rattle.quantity.specs.rules.Angle.{deg}
use Rattle.quantity.specs.rules.Answer.{answered}
use Rattle.units.specs.rules.Degrees.{milliarcseconds_of_degree}
use Rattle.helpers.specs.rules.Angle.{turn_in_degrees, limited, remainder}
use Rattle.helpers.specs.rules.Circle.{below_turn, on_circle, circle_refusal}
use Rattle.helpers.specs.laws.Circle.{circle_finite, circle_from_zero, circle_below_turn}
use Rattle.helpers.specs.laws.Limit.{limited_degrees}
use Rattle.remainder.specs.rules.Remainder.{IsRemainder}
use Rattle.remainder.specs.laws.Exact.{remainder_is_exact}
use Rattle.residual_sheet.specs.declared.Sheet.{Sheet}
use Rattle.residual_sheet.specs.rules.Residual.{is_aside}
use Rattle.heading_mean.specs.rules.Residual.{residual_from}
use Rattle.heading_mean.specs.rules.Reference.{heading_of, vote, is_reference, reference_place}
use Rattle.heading_mean.specs.rules.Mean.{figures_from, mean_of, MeanAndSheet, mean, mean_from, mean_heading_rule}
use Rattle.heading_mean.specs.notions.Accepted.{Accepted}
use Rattle.heading_mean.specs.notions.Near.{farthest_offset, reference_of, Answered}
use Rattle.heading_mean.specs.notions.Order.{Reordered, Shared}
use Rattle.heading_mean.specs.notions.Arc.{unit, over, under, Within, Counted, Near}
use Rattle.heading_mean.specs.laws.Accepted.{each_accepted}
use Rattle.heading_mean.specs.laws.Means.{offset_within, sum_finite}
use Rattle.heading_mean.specs.laws.Answered.{agreeing_counted, more_than_half_agree, answered_from, reference_accepted}
use Rattle.heading_mean.specs.laws.Order.{references_share_a_sight, reordered_references, reordered_mean}
use Rattle.heading_mean.specs.laws.Far.{folded}
use Rattle.heading_mean.specs.laws.Arc.{unit_pos, counted, counts_order, sum_near, turn_counted, zero_counted, turn_count}
use Rattle.heading_mean.specs.laws.Arc.{none_under, heading_counted, around_longer, around_turned, around_added}
use Rattle.heading_mean.specs.laws.Legs.{offset_counts, sight_near}

-- ---- a whole turn is 0

turned : (f : Float) → T (fits binary64 f) → Between operations.zero turn_in_degrees f
    → (count (below_turn (deg f)).0 ≡ count f) ⊎ ((count (below_turn (deg f)).0 ≡ 0) × (360 * unit ≤ count f))
unfolding below_turn
turned f F i =
    by_test (λ (x : Deg). (count x.0 ≡ count f) ⊎ ((count x.0 ≡ 0) × (360 * unit ≤ count f))) (lt f turn_in_degrees) (deg f) (deg operations.zero)
    (λ t. inl refl)
    (λ t. inr (
      no-count,
      omega (arith, counts_order turn_counted (heading_counted f F i.finite i.from) (le_of_not_lt f turn_in_degrees i.finite i.end t)),
    ))
  where
    no-count : count operations.zero ≡ 0
    no-count = unfold count of_bits in refl

-- ---- a remainder by one turn

both : (b : Bool) → T b → T (not b) → ⊥
both true t u = u
both false t u = t

-- what bears no minus sign is not below zero
plus_not_below : (x : Float) → bears_minus x ≡ false → T (lt x operations.zero) → ⊥
unfolding bears_minus lt is_finite of_bits
plus_not_below nan b t = t
plus_not_below (inf true) b t = true≢false b
plus_not_below (inf false) b t = t
plus_not_below (fin true m e) b t = true≢false b
plus_not_below (fin false m e) b t =
    both (lt (fin false m e) operations.zero) t (not_lt_of_le operations.zero (fin false m e) tt tt (zero_le_plus (fin false m e) tt tt))

rest_once : (q m a t : ℕ) → q * t + m ≡ a → m < t → t ≤ a → a < 2 * t → m ≡ a - t
rest_once zero m a t e h k l = absurd (omega arith)
rest_once (suc zero) m a t e h k l = omega arith
rest_once (suc (suc q)) m a t e h k l = absurd (omega arith)

module _ (s : Float) (F : T (fits binary64 s)) (p : Finite s) where
  turn_some : 0 < count turn_in_degrees
  turn_some = omega (arith, turn_count, unit_pos)

  exact : IsRemainder s turn_in_degrees (remainder s turn_in_degrees)
  unfolding is_finite fits of_bits
  exact = remainder_is_exact s turn_in_degrees F tt (is_true (is_finite s) p) refl turn_some

  -- from one turn up to two
  once : bears_minus s ≡ false → count turn_in_degrees ≤ count s → count s < 2 * count turn_in_degrees
      → count (limited s turn_in_degrees) ≡ count s - count turn_in_degrees
  unfolding limited
  once b h k = by_flag (lt r operations.zero) refl
    where
      r : Float
      r = remainder s turn_in_degrees

      rest : count r ≡ count s - count turn_in_degrees
      rest =
          exact.rest
          ∙ rest_once _ (count s % count turn_in_degrees) (count s) (count turn_in_degrees) (div-add-mod' (count s) (count turn_in_degrees)) (mod-lt (count s) turn_some) h k

      by_flag : (t : Bool) → lt r operations.zero ≡ t → count (cond t (r ⊕ turn_in_degrees) r) ≡ count s - count turn_in_degrees
      by_flag true e = absurd (no_minus (holds e))
        where
          no_minus : T (lt r operations.zero) → ⊥
          no_minus t = plus_not_below r (exact.sign ∙ b) t
      by_flag false e = rest

-- ---- the mean

-- no heading counts more than a turn
abbrev Most : Deg → Type 0
Most x = count x.0 ≤ 360 * unit

heading_most : (x : Deg) → circle_refusal x ≡ 0 → T (fits binary64 x.0) → Most x
heading_most x e F =
    let c = heading_counted x.0 F (circle_finite x e) (circle_from_zero x e) in
    omega (arith, counts_order c turn_counted (le_of_lt x.0 turn_in_degrees (circle_below_turn x e)))

module _ (reference : Deg) (R : circle_refusal reference ≡ 0) (fr : T (fits binary64 reference.0)) (o : Float) (fo : T (fits binary64 o))
    (i : Between (neg farthest_offset) farthest_offset o) (fin : Finite (reference.0 ⊕ o)) where
  abbrev r : ℕ
  r = count reference.0

  abbrev s : Float
  s = reference.0 ⊕ o

  abbrev f : Float
  f = limited s turn_in_degrees

  fs : T (fits binary64 s)
  fs = add-fits binary64 reference.0 o

  cr : Counted reference.0 r 0
  cr = heading_counted reference.0 fr (circle_finite reference R) (circle_from_zero reference R)

  r_most : r ≤ 360 * unit
  r_most = heading_most reference R fr

  offset : (2097152 * over o ≤ 582590 * unit + 2097152 * under o) × (2097152 * under o ≤ 582590 * unit + 2097152 * over o)
  offset = offset_counts o fo i

  cs : Counted s (over s) (under s)
  cs = counted s fs fin

  s_near : Near (over s) (under s) (r + over o) (0 + under o)
  s_near =
      sum_near cr (counted o fo i.finite) (over s) (under s) cs (omega (arith, r_most, offset.0)) (omega (arith, offset.1))

  f_within : Between operations.zero turn_in_degrees f
  f_within = limited_degrees s fin

  ff : T (fits binary64 f)
  unfolding limited
  ff =
      by_test (λ (z : Float). T (fits binary64 z)) (lt (remainder s turn_in_degrees) operations.zero) (remainder s turn_in_degrees ⊕ turn_in_degrees)
      (remainder s turn_in_degrees) (λ t. add-fits binary64 (remainder s turn_in_degrees) turn_in_degrees) (λ t. rem-fits binary64 s turn_in_degrees fs)

  cf : Counted f (count f) 0
  cf = heading_counted f ff f_within.finite f_within.from

  f_most : count f ≤ 360 * unit
  f_most = omega (arith, counts_order cf turn_counted f_within.to)

  -- where the sum lies, and its fold
  pub data Fold : Type 0 where
    in_turn_lem : over s + 0 ≡ count f + under s → Fold
    past_turn : over s + 0 ≡ count f + under s + 360 * unit → Fold
    before : Near (count f) 0 (over s + 360 * unit) (under s + 0) → Fold

  fold : Fold
  fold = by_count (less_or_not (count s) (count turn_in_degrees))
    where
      small : (t : Bool) → lt s operations.zero ≡ t → cond t (s ⊕ turn_in_degrees) s ≡ f → Fold
      small true e g =
          before
          (sum_near cs turn_counted (count f) 0 (subst (λ (z : Float). Counted z (count f) 0) (sym g) cf) (omega (arith, s_near.to, r_most, offset.0))
          (omega (arith, s_near.from, offset.1)))
      small false e g =
          let n = none_under s fs fin (le_of_not_lt s operations.zero fin zero_counted.finite (fails e)) in
          in_turn_lem (omega (arith, n.0, n.1, ap count g))

      by_count : (count s < count turn_in_degrees) ⊎ (count turn_in_degrees ≤ count s) → Fold
      by_count (inl k) = small (lt s operations.zero) refl (folded s fs k fin)
      by_count (inr k) = by_sign (bears_minus s) refl s_near.from s_near.to
        where
          by_sign : (b : Bool) → bears_minus s ≡ b → 2097152 * (r + over o + cond b (count s) 0) ≤ 2097152 * (cond b 0 (count s) + (0 + under o)) + unit
              → 2097152 * (cond b 0 (count s) + (0 + under o)) ≤ 2097152 * (r + over o + cond b (count s) 0) + unit → Fold
          by_sign true e f t = absurd (omega (arith, k, turn_count, unit_pos, f, offset.1))
          by_sign false e g t =
              let c = once s fs fin e k (omega (arith, t, turn_count, r_most, offset.0, unit_pos)) in
              past_turn (rw e (omega (arith, c, k, turn_count)))

  -- within 1000.1 seconds of the reference, on either side of north
  pub folded_near : Within 1000100 reference (below_turn (deg f))
  folded_near = by_turn (turned f ff f_within) fold
    where
      m : ℕ
      m = count (below_turn (deg f)).0

      by_turn : (m ≡ count f) ⊎ ((m ≡ 0) × (360 * unit ≤ count f)) → Fold → Within 1000100 reference (below_turn (deg f))
      by_turn (inl e) (in_turn_lem k) = inl (omega (arith, e, k, s_near.from, s_near.to, offset.0, offset.1), omega (arith, e, k, s_near.from, s_near.to, offset.0, offset.1))
      by_turn (inl e) (past_turn k) = inr (inr (omega (arith, e, k, s_near.to, offset.0)))
      by_turn (inl e) (before n) = inr (inl (omega (arith, e, n.from, s_near.from, offset.1)))
      by_turn (inr e) (in_turn_lem k) = inr (inr (omega (arith, e.0, e.1, k, s_near.to, offset.0)))
      by_turn (inr e) (past_turn k) = absurd (omega (arith, e.1, k, s_near.to, offset.0, r_most, unit_pos))
      by_turn (inr e) (before n) = inl (omega (arith, e.0, n.to, n.from, f_most, s_near.from, offset.1), omega (arith, e.0))

  pub folded_most : count (below_turn (deg f)).0 ≤ 360 * unit
  folded_most = by_turn (turned f ff f_within)
    where
      by_turn : (count (below_turn (deg f)).0 ≡ count f) ⊎ ((count (below_turn (deg f)).0 ≡ 0) × (360 * unit ≤ count f)) → count (below_turn (deg f)).0 ≤ 360 * unit
      by_turn (inl e) = omega (arith, e, f_most)
      by_turn (inr e) = omega (arith, e.0)

-- ---- the mean of a set, from a reference of it

within_added : (k l : ℕ) (x y z : Deg) → Most x → Most y → Most z → Within k x y → Within l y z → Within (k + l) x z
within_added k l x y z X Y Z p q =
    around_longer (1296000000 * unit) (k * unit + l * unit) ((k + l) * unit) _ _ (omega arith)
    (around_added (1296000000 * unit) (k * unit) (l * unit) (3600000 * count x.0) (3600000 * count y.0) (3600000 * count z.0)
    (omega (arith, X)) (omega (arith, Y)) (omega (arith, Z)) p q)

within_turned : (k : ℕ) (x y : Deg) → Within k x y → Within k y x
within_turned k x y p = around_turned (1296000000 * unit) (k * unit) (3600000 * count x.0) (3600000 * count y.0) p

vote_agrees : (reference : Deg) (b : ℕ) → vote reference b ≡ 1 → is_aside (residual_from reference (heading_of b)) ≡ false
unfolding vote
vote_agrees reference b e = by_flag (is_aside (residual_from reference (heading_of b))) e
  where
    by_flag : (t : Bool) → cond {A = ℕ} t 0 1 ≡ 1 → t ≡ false
    by_flag true e = absurd (omega arith)
    by_flag false e = refl

module _ (headings : List ℕ) (a : Accepted headings) where
  abbrev mean_by : ℕ → Deg
  mean_by b =
      let f = figures_from (heading_of b) headings in
      mean_of (heading_of b) f.sum f.count

  module _ (b : ℕ) (B : circle_refusal (heading_of b) ≡ 0) (is : is_reference headings b ≡ true) where
    some : 0 < (figures_from (heading_of b) headings).count
    some = omega (arith, agreeing_counted (heading_of b) headings, more_than_half_agree headings b is)

    reference_fits : T (fits binary64 (heading_of b).0)
    reference_fits = of_bits-fits binary64 b

    reference_most : Most (heading_of b)
    reference_most = heading_most (heading_of b) B reference_fits

    -- within 1000.1 seconds of the reference
    pub mean_near : Within 1000100 (heading_of b) (mean_by b)
    unfolding mean_of on_circle
    mean_near =
        folded_near (heading_of b) B reference_fits _ (div-fits binary64 _ milliarcseconds_of_degree)
        (offset_within (heading_of b) headings a.few some) (sum_finite (heading_of b) headings a.few some B)

    mean_most : Most (mean_by b)
    unfolding mean_of on_circle
    mean_most =
        folded_most (heading_of b) B reference_fits _ (div-fits binary64 _ milliarcseconds_of_degree)
        (offset_within (heading_of b) headings a.few some) (sum_finite (heading_of b) headings a.few some B)

  -- two references share a sight, so that their means lie within 4001 seconds of each other
  pub means_near : (b c : ℕ) → circle_refusal (heading_of b) ≡ 0 → circle_refusal (heading_of c) ≡ 0 → is_reference headings b ≡ true
      → is_reference headings c ≡ true → Within 4001000 (mean_by b) (mean_by c)
  means_near b c B C p q =
      around_longer (1296000000 * unit) (4000400 * unit) (4001000 * unit) _ _ (omega arith)
      (within_added 1000100 3000300 (mean_by b) (heading_of b) (mean_by c) mb rb mc (within_turned 1000100 (heading_of b) (mean_by b) (mean_near b B p))
      (within_added 1000100 2000200 (heading_of b) h (mean_by c) rb hm mc (sight_near (heading_of b) h B H (reference_fits b B p) (of_bits-fits binary64 _) (vote_agrees (heading_of b) _ common.first))
      (within_added 1000100 1000100 h (heading_of c) (mean_by c) hm rc mc
      (within_turned 1000100 (heading_of c) h (sight_near (heading_of c) h C H (reference_fits c C q) (of_bits-fits binary64 _) (vote_agrees (heading_of c) _ common.second)))
      (mean_near c C q))))
    where
      common : Shared (heading_of b) (heading_of c) headings
      common = references_share_a_sight headings b c p q

      h : Deg
      h = heading_of (get_or headings common.place 0)

      H : circle_refusal h ≡ 0
      H = each_accepted headings a common.place common.there

      rb : Most (heading_of b)
      rb = reference_most b B p

      rc : Most (heading_of c)
      rc = reference_most c C q

      hm : Most h
      hm = heading_most h H (of_bits-fits binary64 _)

      mb : Most (mean_by b)
      mb = mean_most b B p

      mc : Most (mean_by c)
      mc = mean_most c C q

-- ---- every answer

mean_is : {headings : List ℕ} {x : Deg} {f : Sheet} (a : Answered headings (mean x f))
    → x ≡ mean_by headings a.accepted (get_or headings (reference_place headings) 0)
unfolding mean_from
mean_is a = ap heading a.is
  where
    heading : MeanAndSheet → Deg
    heading (mean z g) = z

-- the mean lies within 1000.1 seconds of its reference, on either side of north
pub mean_heading_near : (headings : List ℕ) (x : Deg) (f : Sheet) → mean_heading_rule headings ≡ answered (mean x f) → Within 1000100 (reference_of headings) x
mean_heading_near headings x f e =
    let a = answered_from headings (mean x f) e in
    subst (λ (y : Deg). Within 1000100 (reference_of headings) y) (sym (mean_is a))
    (mean_near headings a.accepted (get_or headings (reference_place headings) 0) (reference_accepted a) a.agreed)

-- in any order of the set it lies within 4001 seconds of what it was
pub any_order_near : (s t : List ℕ) (x y : Deg) (f g : Sheet) → Reordered s t → mean_heading_rule s ≡ answered (mean x f)
    → mean_heading_rule t ≡ answered (mean y g) → Within 4001000 x y
any_order_near s t x y f g r p q =
    let a = answered_from s (mean x f) p in
    let b = answered_from t (mean y g) q in
    let c = get_or t (reference_place t) 0 in
    let there = reordered_references s t c r ∙ b.agreed in
    subst (λ (z : Deg). Within 4001000 z y) (sym (mean_is a))
    (subst (λ (z : Deg). Within 4001000 (mean_by s a.accepted (get_or s (reference_place s) 0)) z)
    (reordered_mean (heading_of c) s t r ∙ sym (mean_is b))
    (means_near s a.accepted (get_or s (reference_place s) 0) c (reference_accepted a) (reference_accepted b) a.agreed there))
