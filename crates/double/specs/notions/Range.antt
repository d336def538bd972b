-- Ranges of doubles. An operation on ranges is worked out on their ends alone, by the format's own operation, and is unknown where
-- a test on the ends fails. An expression has a value, and a range that needs no more than the bounds of what stands in it.
use Rattle.std.specs.Prelude.{Bool, false, cond, ◌&&◌, ◌⊎◌, List, [], ◌∷◌, Float}
use Rattle.std.specs.Float.{Format}
use Rattle.std.specs.Float.Ieee.{add, sub, mul, div, le}
use Rattle.std.specs.Float.Ieee.Positive.{positive}
use Rattle.double.specs.rules.Sign.{is_finite}
use Rattle.double.specs.rules.Order.{◌≼◌, Between}

-- z lies between p and q, whichever is the lesser
abbrev pub Amid : Float → Float → Float → Type 0
Amid p q z = ((p ≼ z) × (z ≼ q)) ⊎ ((q ≼ z) × (z ≼ p))

infix 40 ◌to◌
pub data Range : Type 0 where
  unknown : Range
  ◌to◌ : Float → Float → Range

abbrev pub In : Range → Float → Type 0
In unknown z = Unit {0}
In (a to b) z = Between a b z

-- ---- from one finite double to another

abbrev pub span : Float → Float → Range
span a b = cond (is_finite a && is_finite b) (a to b) unknown

-- ---- the range of four values

abbrev pub lesser : Float → Float → Float
lesser x y = cond (le x y) x y

abbrev pub greater : Float → Float → Float
greater x y = cond (le x y) y x

abbrev pub is_between : Float → Float → Float → Bool
is_between a b z = is_finite a && (is_finite b && (le a z && le z b))

abbrev pub hull : Float → Float → Float → Float → Range
hull p q r s =
    let a = lesser (lesser p q) (lesser r s) in
    let b = greater (greater p q) (greater r s) in
    cond (is_between a b p && (is_between a b q && (is_between a b r && is_between a b s))) (a to b) unknown

-- ---- the four operations

module _ (f : Format) where
  abbrev pub add_range : Range → Range → Range
  add_range unknown j = unknown
  add_range (a to b) unknown = unknown
  add_range (a to b) (c to d) = span (add f a c) (add f b d)

  abbrev pub sub_range : Range → Range → Range
  sub_range unknown j = unknown
  sub_range (a to b) unknown = unknown
  sub_range (a to b) (c to d) = span (sub f a d) (sub f b c)

  abbrev pub mul_range : Range → Range → Range
  mul_range unknown j = unknown
  mul_range (a to b) unknown = unknown
  mul_range (a to b) (c to d) = hull (mul f a c) (mul f a d) (mul f b c) (mul f b d)

  -- by a divisor above zero
  abbrev pub div_range : Range → Range → Range
  div_range unknown j = unknown
  div_range (a to b) unknown = unknown
  div_range (a to b) (c to d) = cond (positive c) (hull (div f a c) (div f a d) (div f b c) (div f b d)) unknown

-- ---- expressions: a double of which bounds are known, a constant, and the four operations

infixl 60 ◌⊞◌
infixl 60 ◌⊟◌
infixl 70 ◌⊠◌
infixl 70 ◌⧄◌
pub data Expr : Type 0 where
  known : {a b x : Float} → Between a b x → Expr
  con : Float → Expr
  ◌⊞◌ ◌⊟◌ ◌⊠◌ ◌⧄◌ : Expr → Expr → Expr

-- start with p, then repeatedly multiply by z and add the next entry
abbrev pub horner_expr : Expr → Expr → List Float → Expr
horner_expr z p [] = p
horner_expr z p (c ∷ cs) = horner_expr z (p ⊠ z ⊞ con c) cs

module _ (f : Format) where
  abbrev pub value : Expr → Float
  value (known {x = x} i) = x
  value (con c) = c
  value (d ⊞ e) = add f (value d) (value e)
  value (d ⊟ e) = sub f (value d) (value e)
  value (d ⊠ e) = mul f (value d) (value e)
  value (d ⧄ e) = div f (value d) (value e)

  abbrev pub range : Expr → Range
  range (known {a = a} {b = b} i) = a to b
  range (con c) = span c c
  range (d ⊞ e) = add_range f (range d) (range e)
  range (d ⊟ e) = sub_range f (range d) (range e)
  range (d ⊠ e) = mul_range f (range d) (range e)
  range (d ⧄ e) = div_range f (range d) (range e)

-- a range that lies from a to b
abbrev pub inside : Float → Float → Range → Bool
inside a b unknown = false
inside a b (c to d) = is_finite a && (is_finite b && (le a c && le d b))
