-- What is known of the five arguments of nutation; and the range of a sum over rows, computed from the rows alone.
use Rattle.std.specs.Prelude.{Bool, true, ◌&&◌, List, [], ◌∷◌, ℤ, Float}
use Rattle.std.specs.Float.{binary64}
use Rattle.std.specs.Float.Ieee.{neg}
use Rattle.double.specs.rules.Operations.{one}
use Rattle.double.specs.rules.Table.{over}
use Rattle.double.specs.notions.Range.{Range, ◌to◌, add_range, mul_range, div_range, inside}
use Rattle.nutation_args.specs.rules.Numbers.{n10}
use Rattle.nutation_args.specs.rules.Arguments.{moon_of}
use Rattle.nutation_table.specs.rules.Rows.{rows}
use Rattle.nutation_args.specs.rules.Sum.{whole, unit}
use Rattle.domain_accepted.specs.notions.Within.{Within}
use Rattle.domain.specs.notions.Ranges.{constant}

-- ---- the sorts of the arguments and of the rows, by a value of each

abbrev AnswerOf : {A B : Type 0} → (A → B) → Type 0
AnswerOf {A} {B} f = B

abbrev EntryOf : {A : Type 0} → List A → Type 0
EntryOf {A} xs = A

abbrev pub Moon : Type 0
Moon = AnswerOf moon_of

abbrev pub Row : Type 0
Row = EntryOf rows

-- P of each row
abbrev pub EachRow : (Row → Type 0) → List Row → Type 0
EachRow P [] = Unit {0}
EachRow P (x ∷ xs) = P x × EachRow P xs

-- ---- arguments

pub record MoonNear (a : Moon) : Type 0 where
  pub t : Within 20 a.t
  pub d : Within 7 a.d.0
  pub m : Within 7 a.m.0
  pub m1 : Within 7 a.m1.0
  pub f : Within 7 a.f.0
  pub node : Within 7 a.node.0

-- ---- a row's argument and its shares

abbrev turn : Range
turn = neg (over 7 1) to over 7 1

-- a whole number of turns
abbrev times : ℤ → Range
times z = mul_range binary64 (constant (whole z)) turn

abbrev pub argument_range : Row → Range
argument_range x =
    add_range binary64
    (add_range binary64
    (add_range binary64
    (add_range binary64 (times x.0) (times x.1)) (times x.2)) (times x.3)) (times x.4)

-- each argument is up to 2048.0 in size
abbrev pub arguments_near : List Row → Bool
arguments_near [] = true
arguments_near (x ∷ xs) = inside (neg (over 2048 1)) (over 2048 1) (argument_range x) && arguments_near xs

-- (c + (t·d)/10)·v, for t from −20 to 20 and v from −1 to 1
abbrev pub share_range : Float → Float → Range
share_range c d =
    mul_range binary64
    (mul_range binary64
    (add_range binary64 (constant c) (div_range binary64 (mul_range binary64 (neg (over 20 1) to over 20 1) (constant d)) (constant n10)))
    (neg one to one)) (constant unit)

abbrev pub long_range : List Row → Range → Range
long_range [] r = r
long_range (x ∷ xs) r = long_range xs (add_range binary64 r (share_range (whole x.5) (whole x.6)))

abbrev pub oblq_range : List Row → Range → Range
oblq_range [] r = r
oblq_range (x ∷ xs) r = oblq_range xs (add_range binary64 r (share_range (whole x.7) (whole x.8)))
