-- What a C caller sees of an answer: the status n, and what stands afterwards where floats are lent, as their bits.
use Rattle.std.specs.Prelude.{ℕ, ◌≡◌, Float}
use Rattle.double.specs.rules.Pattern.{pattern_of}
use Rattle.quantity.specs.declared.Deg.{Deg}
use Rattle.quantity.specs.declared.Rad.{Rad}
use Rattle.quantity.specs.declared.EqPoint.{EqPoint}
use Rattle.quantity.specs.declared.EclPoint.{EclPoint}
use Rattle.quantity.specs.rules.Answer.{Answer, answered, refused, Pair, pair, first, second, Triple, triple, with, status_of}
use Rattle.atmos.specs.declared.Arcmin.{Arcmin}

-- a part of what is answered, or what stood there
abbrev pub kept : {A B : Type 0} → (A → B) → Answer A → B → B
kept part (answered x) old = part x
kept part (refused n) old = old

-- of one float lent
pub record Handed (a : Answer Float) (n : ℕ) (old new : ℕ) : Type 0 where
  pub answers : n ≡ status_of a
  pub leaves : new ≡ kept pattern_of a old

-- of one value that is handed out as it is
pub record HandedValue {A : Type 0} (a : Answer A) (n : ℕ) (old new : A) : Type 0 where
  pub answers : n ≡ status_of a
  pub leaves : new ≡ kept (λ (x : A). x) a old

-- of one whose bits are answered
abbrev pub HandedBits : Answer ℕ → ℕ → ℕ → ℕ → Type 0
HandedBits a n old new = HandedValue a n old new

-- of two
pub record HandedTwo (a : Answer Pair) (n : ℕ) (old1 old2 new1 new2 : ℕ) : Type 0 where
  pub answers : n ≡ status_of a
  pub leaves1 : new1 ≡ kept (λ (p : Pair). pattern_of (first p)) a old1
  pub leaves2 : new2 ≡ kept (λ (p : Pair). pattern_of (second p)) a old2

abbrev pub one_of : Triple → Float
one_of (triple x y z) = x

abbrev pub two_of : Triple → Float
two_of (triple x y z) = y

abbrev pub three_of : Triple → Float
three_of (triple x y z) = z

-- of three
pub record HandedThree (a : Answer Triple) (n : ℕ) (old1 old2 old3 new1 new2 new3 : ℕ) : Type 0 where
  pub answers : n ≡ status_of a
  pub leaves1 : new1 ≡ kept (λ (t : Triple). pattern_of (one_of t)) a old1
  pub leaves2 : new2 ≡ kept (λ (t : Triple). pattern_of (two_of t)) a old2
  pub leaves3 : new3 ≡ kept (λ (t : Triple). pattern_of (three_of t)) a old3

-- angles and points as their numbers
unfoldable pub number_of_degrees : Answer Deg → Answer Float
number_of_degrees a = with (λ (x : Deg). x.0) a

unfoldable pub number_of_radians : Answer Rad → Answer Float
number_of_radians a = with (λ (x : Rad). x.0) a

unfoldable pub number_of_arcminutes : Answer Arcmin → Answer Float
number_of_arcminutes a = with (λ (x : Arcmin). x.0) a

unfoldable pub numbers_of_point : Answer EqPoint → Answer Pair
numbers_of_point a = with (λ (p : EqPoint). pair p.asc p.dec) a

unfoldable pub numbers_of_ecliptic : Answer EclPoint → Answer Pair
numbers_of_ecliptic a = with (λ (p : EclPoint). pair p.long p.lat) a
