-- What is known of the Earth's velocity; and the ranges of the rows' arguments and of the sums, for a century from −20 to 20, computed
-- from the rows alone.
use Rattle.std.specs.Prelude.{ℕ, Bool, true, cond, ◌&&◌, List, [], ◌∷◌, eqb, get_or, Float}
use Rattle.std.specs.Float.{binary64}
use Rattle.std.specs.Float.Ieee.{neg, eq, lt}
use Rattle.double.specs.rules.Operations.{zero, one}
use Rattle.double.specs.rules.Sign.{is_finite, bears_minus, size}
use Rattle.double.specs.rules.Table.{over, minus_over}
use Rattle.double.specs.notions.Range.{Range, ◌to◌, add_range, sub_range, mul_range, inside}
use Rattle.elementary.specs.rules.Sine.{farthest_alone}
use Rattle.aberr_args.specs.declared.Row.{Row}
use Rattle.aberr_args.specs.declared.Terms.{Terms}
use Rattle.aberr_args.specs.declared.Velocity.{Velocity}
use Rattle.aberr_args.specs.rules.Numbers.{n3·1761467, n1021·3285546, n1·7534703, n628·3075849, n6·2034809, n334·0612431, n0·5995465, n52·9690965}
use Rattle.aberr_args.specs.rules.Numbers.{n0·8740168, n21·3299095, n5·4812939, n7·4781599, n5·3118863, n3·8133036, n3·8103444, n8399·6847337}
use Rattle.aberr_args.specs.rules.Numbers.{n5·1984667, n7771·3771486, n2·3555559, n8328·6914289, n1·6279052, n8433·4661601}
use Rattle.aberr_args.specs.rules.Row.{multipliers_of, x_terms, y_terms, z_terms, is_one}
use Rattle.aberr_table.specs.rules.Table.{o, no, plain, T0, row}
use Rattle.domain_accepted.specs.notions.Within.{Within}
use Rattle.domain.specs.notions.Ranges.{constant, Lies}

-- each part is at most n in size
pub record Held (n : ℕ) (v : Velocity) : Type 0 where
  pub x : Within n v.x
  pub y : Within n v.y
  pub z : Within n v.z

-- each part lies in a range of its own
pub record Ranges : Type 0 where
  pub x : Range
  pub y : Range
  pub z : Range

-- of nothing yet
abbrev pub still : Ranges
still = record { x = zero to zero; y = zero to zero; z = zero to zero }

pub record Lie (r : Ranges) (v : Velocity) : Type 0 where
  pub x : Lies r.x v.x
  pub y : Lies r.y v.y
  pub z : Lies r.z v.z

-- ---- the arguments, over a part of the century

abbrev pub century : Range
century = neg (over 20 1) to over 20 1

module _ (part : Range) where
  -- a + b·t
  abbrev pub drifting : Float → Float → Range
  drifting a b = add_range binary64 (constant a) (mul_range binary64 (constant b) part)

  -- each angle by its number
  abbrev pub angle_range : ℕ → Range
  angle_range n =
      cond (eqb n 1) (drifting n3·8103444 n8399·6847337)
      (cond (eqb n 2) (drifting n3·1761467 n1021·3285546)
      (cond (eqb n 3) (drifting n1·7534703 n628·3075849)
      (cond (eqb n 4) (drifting n6·2034809 n334·0612431)
      (cond (eqb n 5) (drifting n0·5995465 n52·9690965)
      (cond (eqb n 6) (drifting n0·8740168 n21·3299095)
      (cond (eqb n 7) (drifting n5·4812939 n7·4781599)
      (cond (eqb n 8) (drifting n5·3118863 n3·8133036)
      (cond (eqb n 9) (drifting n5·1984667 n7771·3771486)
      (cond (eqb n 10) (drifting n2·3555559 n8328·6914289) (drifting n1·6279052 n8433·4661601))))))))))

-- k·w, and p + k·w, as the rows write them
abbrev pub times_range : Float → Range → Range
times_range k w = cond (is_one k) w (mul_range binary64 (constant k) w)

abbrev pub plus_range : Range → Float → Range → Range
plus_range p k w =
    cond (eq k zero) p
    (cond (bears_minus k) (sub_range binary64 p (times_range (size k) w)) (add_range binary64 p (times_range k w)))

abbrev pub argument_range : Range → Row → Range
argument_range part x =
    let m = multipliers_of x in
    let a = angle_range part x.1 in
    let b = angle_range part x.3 in
    let c = angle_range part x.5 in
    cond m.bracketed (mul_range binary64 (constant m.first) (sub_range binary64 a b))
    (plus_range (plus_range (times_range m.first a) m.second b) m.third c)

-- the argument is up to 400000.0 in size over a part
abbrev pub far_over : Range → Row → Bool
far_over part x = inside (neg farthest_alone) farthest_alone (argument_range part x)

-- from each cut to the next
abbrev pub far_along : Row → Float → List Float → Float → Bool
far_along x a [] b = far_over (a to b) x
far_along x a (c ∷ cs) b = far_over (a to c) x && (is_finite c && far_along x c cs b)

-- where t is cut, what the terms share is not lost
abbrev pub cuts : List Float
cuts = minus_over 10 1 ∷ zero ∷ over 10 1 ∷ []

-- over the whole century, or from cut to cut
abbrev pub argument_far : Row → Bool
argument_far x = cond (far_over century x) true (far_along x (neg (over 20 1)) cuts (over 20 1))

abbrev pub arguments_far : List Row → Bool
arguments_far [] = true
arguments_far (x ∷ xs) = argument_far x && arguments_far xs

-- ---- the sums

-- of a sine and of a cosine
abbrev pub turn : Range
turn = neg one to one

abbrev pub grouped_range : Terms → Range
grouped_range e =
    let s = e.sine in
    let c = e.cosine in
    cond (eq s c) (mul_range binary64 (constant s) (add_range binary64 turn turn))
    (cond (lt s c) (mul_range binary64 (constant c) (sub_range binary64 turn turn)) (mul_range binary64 (constant s) (sub_range binary64 turn turn)))

abbrev pub term_range : Float → Float → Range
term_range k d = cond (eq d zero) (times_range k turn) (mul_range binary64 (plus_range (constant k) d century) turn)

abbrev pub with_term_range : Range → Float → Float → Range
with_term_range p k d =
    cond (eq k zero) p
    (cond (eq d zero) (plus_range p k turn) (add_range binary64 p (mul_range binary64 (plus_range (constant k) d century) turn)))

-- a sum in r, with a row's terms
abbrev pub share_range : Terms → Range → Range
share_range e r =
    cond e.bracketed (add_range binary64 r (grouped_range e))
    (cond e.moving (add_range binary64 r (with_term_range (term_range e.sine e.sine_t) e.cosine e.cosine_t))
    (cond (eq e.sine zero) (cond (eq e.cosine zero) r (add_range binary64 r (times_range e.cosine turn)))
    (add_range binary64 r (plus_range (times_range e.sine turn) e.cosine turn))))

-- a row that is not there
abbrev absent : Row
absent = row o no o no o no plain T0 o o o o o o

abbrev pub with_row_range : Row → List Row → Ranges → Ranges
with_row_range x table r =
    let q = get_or table x.7 absent in
    record { x = share_range (x_terms x q) r.x; y = share_range (y_terms x q) r.y; z = share_range (z_terms x q) r.z }

abbrev pub walked_range : List Row → List Row → Ranges → Ranges
walked_range table [] r = r
walked_range table (x ∷ xs) r = walked_range table xs (with_row_range x table r)
