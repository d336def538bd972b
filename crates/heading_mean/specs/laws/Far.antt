-- A heading that is far from a reference is set aside, and one that is half a turn off is far.
use Rattle.std.specs.Prelude.{◌≡◌, refl, ◌⊎◌, true, false, ℕ, ◌+◌, ◌*◌, ◌^◌, ◌≤◌, ◌<◌, T, ltb, Float}
use Rattle.std.proofs.Common.{sym, inl, inr, mul-le-mul_right, le_of_mul-le-mul_right, mul-pos, mod-eq_of_lt, arith, lt-ltb}
use Rattle.std.proofs.Math.Path.{ap, subst}
use Rattle.std.proofs.Math.Bool.{cond}
use Rattle.std.proofs.Math.Nat.{lt_of_le_of_lt}
use Rattle.std.proofs.Math.Dec.{ltb→lt, lit≤}
use Rattle.std.specs.Float.{nan, inf, fin}
use Rattle.std.specs.Float.Ieee.{binary64, neg, add, sub, mul, le, lt, fits, of_bits, to_unsigned, up, down}
use Rattle.std.specs.Float.Ieee.Bits.{is_true}
use Rattle.std.specs.Float.Ieee.Fits.{sub-fits, down_pos}
use Rattle.std.specs.Float.Ieee.Positive.{den, den_pos}
use Rattle.double.specs.rules.Operations.{bits, zero, one, half, ◌⊕◌, ◌⊖◌}
use Rattle.double.specs.rules.Sign.{size, is_finite}
use Rattle.double.specs.rules.Order.{◌≼◌, Finite, Between}
use Rattle.double.specs.rules.Whole.{whole_part, from_whole}
use Rattle.double.specs.rules.Count.{count}
use Rattle.double.specs.notions.Fraction.{plus_part, minus_part, Rounds}
use Rattle.double.specs.notions.Range.{known, con, ◌⊞◌, ◌⊟◌, ◌⊠◌}
use Rattle.double.specs.laws.Tests.{by_test}
use Rattle.double.specs.laws.Order.{le→below, le_of_lt, le_of_not_lt, le_trans as ≼_trans}
use Rattle.double.specs.laws.Between.{between, between_neg, between_wider, between→size, plus_of_positive}
use Rattle.double.specs.laws.Interval.{bounded}
use Rattle.double.specs.laws.Sign.{size_neg, size_plus, neg_neg}
use Rattle.double.specs.laws.WholePart.{whole_part_mono}
use Rattle.double.specs.laws.Fraction.{rounds_mono, sub_rounds}
use Rattle.double.specs.laws.Count.{count_exact}
use Rattle.quantity.specs.declared.Deg.{Deg}
use Rattle.quantity.specs.rules.Angle.{deg}
use Rattle.units.specs.rules.Degrees.{milliarcseconds, milliarcseconds_of_degree}
use Rattle.units.specs.rules.Nearest.{nearest_whole}
use Rattle.remainder.specs.laws.Remainder.{remainder_is_only}
use Rattle.helpers.specs.rules.Angle.{turn_in_degrees, within360, remainder, limited}
use Rattle.helpers.specs.rules.Circle.{half_turn, circle_refusal}
use Rattle.helpers.specs.laws.Circle.{circle_from_zero, circle_below_turn}
use Rattle.helpers.specs.laws.Limit.{limited_degrees}
use Rattle.residual_sheet.specs.rules.Residual.{rounded, is_aside, farthest_taken}
use Rattle.heading_mean.specs.rules.Residual.{taken_back, across, residual_from}
use Rattle.heading_mean.specs.notions.Far.{Far, under_half, over_half, HalfATurnOff}
use Rattle.heading_mean.specs.laws.Arc.{neg_rounds}

-- ---- what is taken across the turn

abbrev minus_half_turn : Float
minus_half_turn = neg half_turn

pub taken_back_within : (x : Deg) → Between zero turn_in_degrees x.0 → Between minus_half_turn half_turn (taken_back x).0
unfolding taken_back is_finite le neg sub of_bits
taken_back_within x i =
    by_test (λ (y : Deg). Between minus_half_turn half_turn y.0) (lt half_turn x.0) (deg (x.0 ⊖ turn_in_degrees)) x
    (λ t. bounded binary64 minus_half_turn half_turn
    (known (between {a = half_turn} {b = turn_in_degrees} {z = x.0} tt i.end (le_of_lt half_turn x.0 t) i.to) ⊟ con turn_in_degrees) tt)
    (λ t. between tt tt (≼_trans minus_half_turn zero x.0 tt i.from) (le_of_not_lt half_turn x.0 tt i.finite t))

module _ (reference heading : Deg) (R : circle_refusal reference ≡ 0) (H : circle_refusal heading ≡ 0) where
  abbrev difference : Float
  difference = heading.0 ⊖ reference.0

  within : (x : Deg) → circle_refusal x ≡ 0 → Between zero turn_in_degrees x.0
  unfolding is_finite of_bits
  within x e = between tt tt (circle_from_zero x e) (le_of_lt x.0 turn_in_degrees (circle_below_turn x e))

  -- `limit_to_360` refuses no difference
  pub difference_within : Between (neg turn_in_degrees) turn_in_degrees difference
  unfolding is_finite le neg sub of_bits
  difference_within = bounded binary64 (neg turn_in_degrees) turn_in_degrees (known (within heading H) ⊟ known (within reference R)) tt

  pub across_within : Between minus_half_turn half_turn (across reference heading).0
  unfolding across
  across_within = taken_back_within (within360 (deg difference)) (limited_degrees difference difference_within.finite)

-- ---- what is far is set aside

-- 3600000.0, and 648000000.0, half a turn
abbrev most : Float
most = bits 0x41c34fd900000000

pub nearest_from_whole : (y : Float) → whole_part y ≤ nearest_whole y
unfolding nearest_whole
nearest_from_whole y =
    let w = whole_part y in
    by_test (λ (n : ℕ). w ≤ n) (ltb w 9007199254740992) (cond (le half (y ⊖ from_whole w)) (w + 1) w) w
    (λ t. by_test (λ (n : ℕ). w ≤ n) (le half (y ⊖ from_whole w)) (w + 1) w (λ u. omega arith) (λ u. omega arith)) (λ t. omega arith)

large : (y : Float) → Between milliarcseconds_of_degree most y → 3600000 ≤ nearest_whole (size y)
large y i =
    let p = plus_of_positive milliarcseconds_of_degree y (unfold of_bits in tt) i.from in
    let w : 3600000 ≤ whole_part milliarcseconds_of_degree = unfold of_bits to_unsigned in lit≤ tt in
    rw (size_plus y p)
    (omega (arith, w, whole_part_mono milliarcseconds_of_degree y i.start i.finite p i.from, nearest_from_whole y))

far_large : (a : Float) → Between minus_half_turn half_turn a → (one ≼ a) ⊎ (a ≼ neg one) → 3600000 ≤ nearest_whole (size (milliarcseconds (deg a)))
unfolding is_finite le neg mul of_bits
far_large a i (inl h) = large (milliarcseconds (deg a)) (bounded binary64 milliarcseconds_of_degree most (known (between {a = one} {b = half_turn} {z = a} tt i.end h i.to) ⊠ con milliarcseconds_of_degree) tt)
far_large a i (inr h) =
    let y = milliarcseconds (deg a) in
    let below = bounded binary64 (neg most) (neg milliarcseconds_of_degree) (known (between {a = minus_half_turn} {b = neg one} {z = a} i.start tt i.from h) ⊠ con milliarcseconds_of_degree) tt in
    subst (λ (z : Float). 3600000 ≤ nearest_whole z) (size_neg y) (large (neg y) (between_neg below))

pub far_is_aside : (reference heading : Deg) → circle_refusal reference ≡ 0 → circle_refusal heading ≡ 0 → Far reference heading
    → is_aside (residual_from reference heading) ≡ true
unfolding residual_from rounded
far_is_aside reference heading R H f =
    let a = across reference heading in
    lt-ltb farthest_taken (nearest_whole (size (milliarcseconds a))) (omega (arith, far_large a.0 (across_within reference heading R H) f))

-- ---- what is half a turn off is far

-- the order of sizes is that of counts, over any unit
counts_in_order : (a b m n d e U : ℕ) → 0 < d → 0 < e → m * U ≡ a * d → n * U ≡ b * e → m * e ≤ n * d → a ≤ b
counts_in_order a b m n d e U D E p q h =
    le_of_mul-le-mul_right {m = a} {n = b} {k = d * e}
    (omega (arith, ap (λ (x : ℕ). x * e) p, ap (λ (x : ℕ). x * d) q, mul-le-mul_right {m = m * e} {n = n * d} U h)) (mul-pos D E)

count_order : (x y : Float) → T (fits binary64 x) → T (fits binary64 y) → Finite x → Finite y → size x ≼ size y → count x ≤ count y
unfolding is_finite size
count_order nan y F G p q h = absurd p
count_order (inf s) y F G p q h = absurd p
count_order (fin s m e) nan F G p q h = absurd q
count_order (fin s m e) (inf t) F G p q h = absurd q
count_order (fin s m e) (fin t n d) F G p q h =
    counts_in_order (count (fin s m e)) (count (fin t n d)) (m * up e) (n * up d) (down e) (down d) (2 ^ 1074) (down_pos e) (down_pos d)
    (count_exact (fin s m e) F refl).1 (count_exact (fin t n d) G refl).1 (omega (arith, le→below (fin false m e) (fin false n d) tt tt h))

-- what is below 360.0 in size is its own remainder
pub own_remainder : (x : Float) → T (fits binary64 x) → Finite x → count x < count turn_in_degrees → x ≡ remainder x turn_in_degrees
unfolding is_finite fits of_bits
own_remainder x F p h =
    remainder_is_only x turn_in_degrees x F tt (is_true (is_finite x) p) refl (omega arith)
    (record { held = F; finite = is_true (is_finite x) p; sign = refl; rest = sym (mod-eq_of_lt h) })

back_far : (x : Deg) → Between under_half over_half x.0 → (one ≼ (taken_back x).0) ⊎ ((taken_back x).0 ≼ neg one)
unfolding taken_back is_finite le neg sub of_bits
back_far x i =
    by_test (λ (y : Deg). (one ≼ y.0) ⊎ (y.0 ≼ neg one)) (lt half_turn x.0) (deg (x.0 ⊖ turn_in_degrees)) x
    (λ t. inr (bounded binary64 (neg over_half) (neg one) (known i ⊟ con turn_in_degrees) tt).to)
    (λ t. inl (≼_trans one under_half x.0 tt i.from))

module _ (d : Float) (F : T (fits binary64 d)) where
  -- it is its own remainder
  few_counts : Finite d → size d ≼ over_half → count d < count turn_in_degrees
  unfolding is_finite fits size of_bits
  few_counts p h =
      let k : count over_half < count turn_in_degrees = unfold count in ltb→lt (count over_half) (count turn_in_degrees) tt in
      lt_of_le_of_lt (count_order d over_half F tt p tt h) k

  pub folded : count d < count turn_in_degrees → Finite d → cond (lt d zero) (d ⊕ turn_in_degrees) d ≡ limited d turn_in_degrees
  unfolding limited
  folded h p = ap (λ (r : Float). cond (lt r zero) (r ⊕ turn_in_degrees) r) (own_remainder d F p h)

  half_folded : Between under_half over_half d ⊎ Between (neg over_half) (neg under_half) d → Between under_half over_half (limited d turn_in_degrees)
  unfolding is_finite le neg add of_bits
  half_folded (inl i) =
      let s : size d ≼ over_half = between→size over_half d (between_wider {a = neg over_half} {b = under_half} {c = over_half} {d = over_half} {z = d} tt tt tt tt i) in
      subst (Between under_half over_half) (folded (few_counts i.finite s) i.finite)
      (by_test (Between under_half over_half) (lt d zero) (d ⊕ turn_in_degrees) d
      (λ t. absurd (≼_trans under_half d zero i.from (le_of_lt d zero t))) (λ t. i))
  half_folded (inr i) =
      let s : size d ≼ over_half = between→size over_half d (between_wider {a = neg over_half} {b = neg over_half} {c = neg under_half} {d = over_half} {z = d} tt tt tt tt i) in
      subst (Between under_half over_half) (folded (few_counts i.finite s) i.finite)
      (by_test (Between under_half over_half) (lt d zero) (d ⊕ turn_in_degrees) d
      (λ t. bounded binary64 under_half over_half (known i ⊞ con turn_in_degrees) tt)
      (λ t. absurd (≼_trans zero d (neg under_half) (le_of_not_lt d zero i.finite tt t) i.to)))

pub half_a_turn_is_far : (reference heading : Deg) → HalfATurnOff reference heading → Far reference heading
unfolding across
half_a_turn_is_far reference heading o =
    let d = heading.0 ⊖ reference.0 in
    back_far (within360 (deg d)) (half_folded d (sub-fits binary64 heading.0 reference.0) o)

-- of a difference the other way: it is the same with the other sign
turned : (x y : Float) → Finite x → Finite y → (a b : Float) → Between a b (x ⊖ y) → Between (neg b) (neg a) (y ⊖ x)
turned x y p q a b i =
    let n = between_neg i in
    between n.start n.end (≼_trans (neg b) (neg (x ⊖ y)) (y ⊖ x) n.from (rounds_mono binary64 _ _ P N D P N D D0 D0 there back (omega arith)))
    (≼_trans (y ⊖ x) (neg (x ⊖ y)) (neg a) (rounds_mono binary64 _ _ P N D P N D D0 D0 back there (omega arith)) n.to)
  where
    P : ℕ
    P = minus_part x * den y + plus_part y * den x

    N : ℕ
    N = plus_part x * den y + minus_part y * den x

    D : ℕ
    D = den x * den y

    D0 : 0 < D
    D0 = mul-pos (den_pos x) (den_pos y)

    there : Rounds binary64 (neg (x ⊖ y)) P N D
    there = neg_rounds (sub_rounds binary64 x y p q)

    back : Rounds binary64 (y ⊖ x) P N D
    back = in_order (sub_rounds binary64 y x q p)
      where
        in_order : Rounds binary64 (y ⊖ x) (plus_part y * den x + minus_part x * den y) (minus_part y * den x + plus_part x * den y) (den y * den x)
            → Rounds binary64 (y ⊖ x) P N D
        in_order r =
            let u : plus_part y * den x + minus_part x * den y ≡ P = omega arith in
            let v : minus_part y * den x + plus_part x * den y ≡ N = omega arith in
            let w : den y * den x ≡ D = omega arith in
            subst (λ (k : ℕ). Rounds binary64 (y ⊖ x) P N k) w (subst (λ (k : ℕ). Rounds binary64 (y ⊖ x) P k (den y * den x)) v
            (subst (λ (k : ℕ). Rounds binary64 (y ⊖ x) k (minus_part y * den x + plus_part x * den y) (den y * den x)) u r))

pub half_a_turn_turned : (reference heading : Deg) → Finite reference.0 → Finite heading.0 → HalfATurnOff reference heading → HalfATurnOff heading reference
half_a_turn_turned reference heading p q (inl i) = inr (turned heading.0 reference.0 q p under_half over_half i)
half_a_turn_turned reference heading p q (inr i) =
    inl (subst (λ (z : Float). Between z over_half (reference.0 ⊖ heading.0)) (neg_neg under_half)
    (subst (λ (z : Float). Between (neg (neg under_half)) z (reference.0 ⊖ heading.0)) (neg_neg over_half)
    (turned heading.0 reference.0 q p (neg over_half) (neg under_half) i)))

-- a sight half a turn off is set aside
pub half_a_turn_is_aside : (reference heading : Deg) → circle_refusal reference ≡ 0 → circle_refusal heading ≡ 0 → HalfATurnOff reference heading
    → is_aside (residual_from reference heading) ≡ true
half_a_turn_is_aside reference heading R H o = far_is_aside reference heading R H (half_a_turn_is_far reference heading o)
