-- A sum over rows is at most, in size, the sum of the bounds of its parts, where that is finite.
use Rattle.std.specs.Prelude.{◌≡◌, refl, T, Float}
use mathlib.Core.List.{List, [], ◌∷◌}
use Rattle.std.specs.Float.Ieee.{binary64, of_bits}
use Rattle.std.specs.Float.Ieee.Positive.{positive}
use Rattle.double.specs.rules.Operations.{◌⊕◌, ◌⊗◌, ◌⊘◌}
use Rattle.double.specs.rules.Sign.{is_finite}
use Rattle.double.specs.rules.Order.{Finite}
use Rattle.nutation_args.specs.declared.Row.{Row}
use Rattle.nutation_args.specs.declared.Moon.{Moon}
use Rattle.nutation_args.specs.declared.Sums.{Sums}
use Rattle.nutation_args.specs.rules.Numbers.{n10}
use Rattle.nutation_args.specs.rules.Sum.{unit, share, with_row, summed}
use Rattle.nutation_ceiling.specs.rules.Ceiling.{largest, with_largest, largest_sum}
use Rattle.nutation_ceiling.specs.notions.Walk.{Under, walked, Each, sines, cosines, long, slow_long, oblq, slow_oblq, sized, ones}
use Rattle.nutation_ceiling.specs.laws.Within.{under_itself, under_mul, under_add, under_div, mul_back, add_back, div_back}

ten_positive : T (positive n10)
unfolding of_bits
ten_positive = tt

unit_under : Under unit unit
unfolding of_bits is_finite
unit_under = under_itself unit tt tt

module _ (c d v cb db vb t tb : Float) (hc : Finite cb → Under cb c) (hd : Finite db → Under db d) (hv : Under vb v) (ht : Under tb t) where
  share_under : Finite (share cb db vb tb).0 → Under (share cb db vb tb).0 (share c d v t).0
  share_under F =
      let slow = tb ⊗ db in
      let part = slow ⊘ n10 in
      let p1 = (mul_back binary64 ((cb ⊕ part) ⊗ vb) unit F).0 in
      let p2 = (mul_back binary64 (cb ⊕ part) vb p1).0 in
      let p3 = add_back binary64 cb part p2 in
      let p4 = div_back binary64 slow n10 p3.1 in
      let p5 = mul_back binary64 tb db p4 in
      under_mul binary64 ((cb ⊕ part) ⊗ vb) unit ((c ⊕ t ⊗ d ⊘ n10) ⊗ v) unit
      (under_mul binary64 (cb ⊕ part) vb (c ⊕ t ⊗ d ⊘ n10) v
      (under_add binary64 cb part c (t ⊗ d ⊘ n10) (hc p3.0)
      (under_div binary64 slow (t ⊗ d) n10 (under_mul binary64 tb db t d ht (hd p5.1) p4) ten_positive p3.1) p2)
      hv p1)
      unit_under F

-- ---- all rows

walked_back : (c d v : Row → Float) (t : Float) (xs : List Row) (s : Float) → Finite (walked c d v t xs s) → Finite s
unfolding walked
walked_back c d v t [] s F = F
walked_back c d v t (x ∷ xs) s F =
    (add_back binary64 s (share (c x) (d x) (v x) t).0 (walked_back c d v t xs (s ⊕ (share (c x) (d x) (v x) t).0) F)).0

module _ (c d v cb db vb : Row → Float) (t tb : Float) (hc : (x : Row) → Finite (cb x) → Under (cb x) (c x)) (hd : (x : Row) → Finite (db x) → Under (db x) (d x)) (ht : Under tb t) where
  pub walked_under : (xs : List Row) → Each (λ (x : Row). Under (vb x) (v x)) xs → (sb s : Float) → Under sb s
      → Finite (walked cb db vb tb xs sb) → Under (walked cb db vb tb xs sb) (walked c d v t xs s)
  unfolding walked
  walked_under [] h sb s u F = u
  walked_under (x ∷ xs) h sb s u F =
      let most = (share (cb x) (db x) (vb x) tb).0 in
      let part = (share (c x) (d x) (v x) t).0 in
      let p = walked_back cb db vb tb xs (sb ⊕ most) F in
      walked_under xs h.1 (sb ⊕ most) (s ⊕ part)
      (under_add binary64 sb most s part u
      (share_under (c x) (d x) (v x) (cb x) (db x) (vb x) t tb (hc x) (hd x) h.0 ht (add_back binary64 sb most p).1) p)
      F

-- ---- nutation's sums and the ceiling's are such walks

pub long_walked : (xs : List Row) (a : Moon) (s : Sums) → (summed xs a s).long.0 ≡ walked long slow_long (sines a) a.t xs s.long.0
unfolding summed with_row walked
long_walked [] a s = refl
long_walked (x ∷ xs) a s = long_walked xs a (with_row x a s)

pub oblq_walked : (xs : List Row) (a : Moon) (s : Sums) → (summed xs a s).oblq.0 ≡ walked oblq slow_oblq (cosines a) a.t xs s.oblq.0
unfolding summed with_row walked
oblq_walked [] a s = refl
oblq_walked (x ∷ xs) a s = oblq_walked xs a (with_row x a s)

pub long_largest_lem : (xs : List Row) (u : Float) (s : Sums) → (largest_sum xs u s).long.0 ≡ walked (sized long) (sized slow_long) ones u xs s.long.0
unfolding largest_sum with_largest largest walked
long_largest_lem [] u s = refl
long_largest_lem (x ∷ xs) u s = long_largest_lem xs u (with_largest x u s)

pub oblq_largest_lem : (xs : List Row) (u : Float) (s : Sums) → (largest_sum xs u s).oblq.0 ≡ walked (sized oblq) (sized slow_oblq) ones u xs s.oblq.0
unfolding largest_sum with_largest largest walked
oblq_largest_lem [] u s = refl
oblq_largest_lem (x ∷ xs) u s = oblq_largest_lem xs u (with_largest x u s)
