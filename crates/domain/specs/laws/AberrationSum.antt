-- The Earth's velocity at a century from −20 to 20: each row's argument is up to 400000.0 in size, and each sum up to 2272000.0, in the
-- unit of the rows.
use Prim.Native.Nat as nat
use Rattle.std.specs.Prelude.{ℕ, suc, ◌<◌, Bool, true, ◌&&◌, T, eqb, length, get_or, take, Float}
use Rattle.std.proofs.Common.{le_of_suc-le-suc, not-suc-le-zero, subst, inl, inr}
use mathlib.Core.List.{List, [], ◌∷◌}
use Rattle.std.specs.Float.Ieee.{neg, add, sub, mul, le, eq, lt, of_bits, of_int, round}
use Rattle.std.specs.Float.Ieee.Fits.{and_l, and_r}
use Rattle.double.specs.rules.Operations.{zero, ◌⊕◌, ◌⊗◌}
use Rattle.double.specs.rules.Sign.{bears_minus, is_finite, size}
use Rattle.double.specs.rules.Order.{◌≼◌, Between}
use Rattle.double.specs.rules.Table.{over}
use Rattle.double.specs.notions.Range.{Range, ◌to◌, inside}
use Rattle.double.specs.laws.Tests.{by_test}
use Rattle.double.specs.laws.Between.{between_itself, between_cut, between→size}
use Rattle.elementary.specs.rules.Sine.{sin_cos_of, farthest_alone}
use Rattle.elementary.specs.laws.Sine.{sine_between, cosine_between}
use Rattle.aberr_args.specs.declared.Row.{Row}
use Rattle.aberr_args.specs.declared.Terms.{Terms}
use Rattle.aberr_args.specs.declared.Velocity.{Velocity}
use Rattle.aberr_args.specs.rules.Arguments.{arguments_of}
use Rattle.aberr_args.specs.rules.Row.{angle_of, multipliers_of, is_one, times, plus, argument_of, grouped, term, with_term, moved, spread, share_of, added, with_row}
use Rattle.aberr_table.specs.rules.Velocity.{rows, summed, none}
use Rattle.aberr_table.specs.rules.Table.{table, walked}
use Rattle.aberr_table.specs.laws.Walk.{table_is_rows}
use Rattle.domain_accepted.specs.notions.Within.{Within}
use Rattle.domain.specs.notions.Ranges.{Lies}
use Rattle.domain.specs.notions.Aberration.{Held, Ranges, still, Lie, drifting, angle_range, times_range, plus_range, argument_range, century}
use Rattle.domain.specs.notions.Aberration.{far_over, far_along, cuts, argument_far, arguments_far, turn, grouped_range, term_range, with_term_range}
use Rattle.domain.specs.notions.Aberration.{share_range, with_row_range, walked_range}
use Rattle.domain.specs.laws.Ranges.{constant_lies, sum_lies, difference_lies, product_lies, either_lies, either_angle_lies, in_inside}

-- ---- sums and products as the rows write them

times_lies : (k : Float) {r : Range} {w : Float} → Lies r w → Lies (times_range k r) (times k w)
unfolding times
times_lies k i = either_lies (is_one k) i (product_lies (constant_lies k) i)

plus_lies : (k : Float) {r s : Range} {p w : Float} → Lies r p → Lies s w → Lies (plus_range r k s) (plus p k w)
unfolding plus
plus_lies k i j =
    either_lies (eq k zero) i (either_lies (bears_minus k) (difference_lies i (times_lies (size k) j)) (sum_lies i (times_lies k j)))

-- ---- a row's argument

module _ {part : Range} {t : Float} (P : Lies part t) where
  drifting_lies : (a b : Float) → Lies (drifting part a b) (a ⊕ b ⊗ t)
  drifting_lies a b = sum_lies (constant_lies a) (product_lies (constant_lies b) P)

  angle_lies : (n : ℕ) → Lies (angle_range part n) (angle_of (arguments_of t) n).0
  unfolding angle_of arguments_of
  angle_lies n =
      either_angle_lies (eqb n 1) (drifting_lies _ _)
      (either_angle_lies (eqb n 2) (drifting_lies _ _)
      (either_angle_lies (eqb n 3) (drifting_lies _ _)
      (either_angle_lies (eqb n 4) (drifting_lies _ _)
      (either_angle_lies (eqb n 5) (drifting_lies _ _)
      (either_angle_lies (eqb n 6) (drifting_lies _ _)
      (either_angle_lies (eqb n 7) (drifting_lies _ _)
      (either_angle_lies (eqb n 8) (drifting_lies _ _)
      (either_angle_lies (eqb n 9) (drifting_lies _ _) (either_angle_lies (eqb n 10) (drifting_lies _ _) (drifting_lies _ _))))))))))

  argument_lies : (x : Row) → Lies (argument_range part x) (argument_of x (arguments_of t)).0
  unfolding argument_of
  argument_lies x =
      let m = multipliers_of x in
      let a = angle_lies x.1 in
      let b = angle_lies x.3 in
      let c = angle_lies x.5 in
      either_lies m.bracketed (product_lies (constant_lies m.first) (difference_lies a b))
      (plus_lies m.third (plus_lies m.second (times_lies m.first a) b) c)

  part_far : (x : Row) → T (far_over part x) → size (argument_of x (arguments_of t)).0 ≼ farthest_alone
  part_far x f =
      let a = (argument_of x (arguments_of t)).0 in
      between→size farthest_alone a (in_inside (neg farthest_alone) farthest_alone (argument_range part x) a f (argument_lies x).lies)

far_along_lem : (x : Row) {a b t : Float} (cs : List Float) → T (far_along x a cs b) → Between a b t → size (argument_of x (arguments_of t)).0 ≼ farthest_alone
far_along_lem x {a} {b} [] f i = part_far (record { lies = i }) x f
far_along_lem x {a} {b} (c ∷ cs) f i =
    let here = far_over (a to c) x in
    let after = and_r here (is_finite c && far_along x c cs b) f in
    elim (between_cut c (and_l (is_finite c) (far_along x c cs b) after) i) [
      | inl j ↦ part_far (record { lies = j }) x (and_l here (is_finite c && far_along x c cs b) f)
      | inr j ↦ far_along_lem x cs (and_r (is_finite c) (far_along x c cs b) after) j
    ]

-- ---- a row's terms

module _ {t s c : Float} (P : Lies century t) (S : Lies turn s) (C : Lies turn c) where
  grouped_lies : (e : Terms) → Lies (grouped_range e) (grouped e s c)
  unfolding grouped
  grouped_lies e =
      either_lies (eq e.sine e.cosine) (product_lies (constant_lies e.sine) (sum_lies S C))
      (either_lies (lt e.sine e.cosine) (product_lies (constant_lies e.cosine) (difference_lies C S))
      (product_lies (constant_lies e.sine) (difference_lies S C)))

  term_lies : (k d : Float) → Lies (term_range k d) (term k d t s)
  unfolding term
  term_lies k d = either_lies (eq d zero) (times_lies k S) (product_lies (plus_lies d (constant_lies k) P) S)

  with_term_lies : (k d : Float) {r : Range} {p : Float} → Lies r p → Lies (with_term_range r k d) (with_term p k d t c)
  unfolding with_term
  with_term_lies k d i =
      either_lies (eq k zero) i
      (either_lies (eq d zero) (plus_lies k i C) (sum_lies i (product_lies (plus_lies d (constant_lies k) P) C)))

  share_lies : (e : Terms) {r : Range} {v : Float} → Lies r v → Lies (share_range e r) (share_of e t s c v)
  unfolding share_of spread moved
  share_lies e i =
      either_lies e.bracketed (sum_lies i (grouped_lies e))
      (either_lies e.moving (sum_lies i (with_term_lies e.cosine e.cosine_t (term_lies e.sine e.sine_t)))
      (either_lies (eq e.sine zero) (either_lies (eq e.cosine zero) i (sum_lies i (times_lies e.cosine C)))
      (sum_lies i (plus_lies e.cosine (times_lies e.sine S) C))))

-- ---- all rows

module _ {t : Float} (W : Within 20 t) where
  argument_far_lem : (x : Row) → T (argument_far x) → size (argument_of x (arguments_of t)).0 ≼ farthest_alone
  argument_far_lem x f =
      let cut = far_along x (neg (over 20 1)) cuts (over 20 1) in
      by_test (λ (b : Bool). T b → size (argument_of x (arguments_of t)).0 ≼ farthest_alone) (far_over century x) true cut
      (λ here g. part_far (record { lies = W }) x here) (λ no g. far_along_lem x cuts g W) f

  arguments_far_lem : (xs : List Row) → T (arguments_far xs) → (i : ℕ) (d : Row) → i < length xs
      → size (argument_of (get_or xs i d) (arguments_of t)).0 ≼ farthest_alone
  arguments_far_lem [] f i d h = absurd (not-suc-le-zero h)
  arguments_far_lem (x ∷ xs) f nat.zero d h = argument_far_lem x (and_l (argument_far x) (arguments_far xs) f)
  arguments_far_lem (x ∷ xs) f (suc i) d h = arguments_far_lem xs (and_r (argument_far x) (arguments_far xs) f) i d (le_of_suc-le-suc h)

  row_lies : (x : Row) (all : List Row) {r : Ranges} {v : Velocity} → T (argument_far x) → Lie r v
      → Lie (with_row_range x all r) (with_row x all (arguments_of t) v)
  unfolding with_row added sin_cos_of arguments_of
  row_lies x all f i =
      let a = argument_of x (arguments_of t) in
      let P : Lies century t = record { lies = W } in
      let S : Lies turn (sin_cos_of a).sine = record { lies = sine_between a (argument_far_lem x f) } in
      let C : Lies turn (sin_cos_of a).cosine = record { lies = cosine_between a (argument_far_lem x f) } in
      record { x = share_lies P S C _ i.x; y = share_lies P S C _ i.y; z = share_lies P S C _ i.z }

  walked_lie : (all xs : List Row) {r : Ranges} {v : Velocity} → T (arguments_far xs) → Lie r v
      → Lie (walked_range all xs r) (walked all xs (arguments_of t) v)
  unfolding walked
  walked_lie all [] f i = i
  walked_lie all (x ∷ xs) f i =
      walked_lie all xs (and_r (argument_far x) (arguments_far xs) f) (row_lies x all (and_l (argument_far x) (arguments_far xs) f) i)

-- ---- the table

rows_far : T (arguments_far (take 36 table))
unfolding bears_minus is_finite le neg add sub mul eq of_bits of_int round size
rows_far = tt

abbrev sums : Ranges
sums = walked_range table (take 36 table) still

abbrev most : Float
most = over 2272000 1

x_held : T (inside (neg most) most sums.x)
unfolding bears_minus is_finite le neg add sub mul eq lt of_bits of_int round size
x_held = tt

y_held : T (inside (neg most) most sums.y)
unfolding bears_minus is_finite le neg add sub mul eq lt of_bits of_int round size
y_held = tt

z_held : T (inside (neg most) most sums.z)
unfolding bears_minus is_finite le neg add sub mul eq lt of_bits of_int round size
z_held = tt

held : {r : Range} {v : Float} → T (inside (neg most) most r) → Lies r v → Within 2272000 v
held {r} {v} t i = in_inside (neg most) most r v t i.lies

at_rest : Lie still none
unfolding is_finite of_bits
at_rest =
    let z : Lies still.x none.x = record { lies = between_itself tt } in
    record { x = z; y = z; z = z }

-- ---- at a century

module _ (t : Float) (W : Within 20 t) where
  -- each row's argument goes into a sine: of the rows that are walked, by their indices from 0
  pub aberration_arguments_far : (i : ℕ) (d : Row) → i < 36 → size (argument_of (get_or (take 36 table) i d) (arguments_of t)).0 ≼ farthest_alone
  aberration_arguments_far = arguments_far_lem W (take 36 table) rows_far

  pub velocity_held : Held 2272000 (summed rows (arguments_of t) none)
  velocity_held =
      let lie = walked_lie W table (take 36 table) rows_far at_rest in
      subst (λ (v : Velocity). Held 2272000 v) (table_is_rows (arguments_of t) none)
      (record { x = held x_held lie.x; y = held y_held lie.y; z = held z_held lie.z })
