-- Each operation keeps the order, or turns it round.
use Rattle.std.specs.Prelude.{◌≡◌, ℕ, ◌+◌, ◌*◌, ◌<◌, ◌≤◌, true, false, T, ℤ, Float}
use Rattle.std.proofs.Common.{inl, inr, mul-le-mul_right, mul-pos, arith, ltb→lt}
use Rattle.std.specs.Float.{nan, inf, Format}
use Rattle.std.specs.Float.Ieee.{fin, up, down, neg, add, sub, mul, div}
use Rattle.std.specs.Float.Ieee.Fits.{up_pos}
use Rattle.std.specs.Float.Ieee.Positive.{num, den, den_pos, positive, le→cross}
use Rattle.double.specs.rules.Sign.{is_finite}
use Rattle.double.specs.rules.Order.{◌≼◌, Finite}
use Rattle.double.specs.notions.Fraction.{plus_part, minus_part}
use Rattle.double.specs.notions.Range.{Amid}
use Rattle.double.specs.laws.Sign.{finite_neg}
use Rattle.double.specs.laws.Order.{le→below, neg_le}
use Rattle.double.specs.laws.Fraction.{rounds_mono, add_rounds, mul_rounds, div_rounds}

-- ---- sums and differences

add_cross : (px nx dx px' nx' dx' py ny dy py' ny' dy' : ℕ) → px * dx' + nx' * dx ≤ px' * dx + nx * dx'
    → py * dy' + ny' * dy ≤ py' * dy + ny * dy'
    → (px * dy + py * dx) * (dx' * dy') + (nx' * dy' + ny' * dx') * (dx * dy) ≤ (px' * dy' + py' * dx') * (dx * dy) + (nx * dy + ny * dx) * (dx' * dy')
add_cross px nx dx px' nx' dx' py ny dy py' ny' dy' h k =
    combine ((px * dy + py * dx) * (dx' * dy')) ((nx' * dy' + ny' * dx') * (dx * dy))
    ((px' * dy' + py' * dx') * (dx * dy)) ((nx * dy + ny * dx) * (dx' * dy'))
    (px * dx' * (dy * dy')) (nx' * dx * (dy * dy')) (px' * dx * (dy * dy')) (nx * dx' * (dy * dy'))
    (py * dy' * (dx * dx')) (ny' * dy * (dx * dx')) (py' * dy * (dx * dx')) (ny * dy' * (dx * dx'))
    (expand px dy py dx dx' dy') (expand' nx' dy' ny' dx' dx dy) (expand' px' dy' py' dx' dx dy) (expand nx dy ny dx dx' dy')
    (spread (px * dx') (nx' * dx) (px' * dx) (nx * dx') (dy * dy') h) (spread (py * dy') (ny' * dy) (py' * dy) (ny * dy') (dx * dx') k)
  where
    expand : (p dy q dx dx' dy' : ℕ) → (p * dy + q * dx) * (dx' * dy') ≡ p * dx' * (dy * dy') + q * dy' * (dx * dx')
    expand p dy q dx dx' dy' = omega arith

    expand' : (p dy' q dx' dx dy : ℕ) → (p * dy' + q * dx') * (dx * dy) ≡ p * dx * (dy * dy') + q * dy * (dx * dx')
    expand' p dy' q dx' dx dy = omega arith

    spread : (a b c d m : ℕ) → a + b ≤ c + d → a * m + b * m ≤ c * m + d * m
    spread a b c d m h = omega (arith, mul-le-mul_right m h)

    combine : (l m r s a b c d e g i j : ℕ) → l ≡ a + e → m ≡ b + g → r ≡ c + i → s ≡ d + j → a + b ≤ c + d → e + g ≤ i + j → l + m ≤ r + s
    combine l m r s a b c d e g i j p q u v h k = omega arith

pub add_mono : (f : Format) (x x' y y' : Float) → Finite x → Finite x' → Finite y → Finite y' → x ≼ x' → y ≼ y' → add f x y ≼ add f x' y'
add_mono f x x' y y' p p' q q' h k =
    rounds_mono f (add f x y) (add f x' y') _ _ _ _ _ _ (mul-pos (den_pos x) (den_pos y))
    (mul-pos (den_pos x') (den_pos y')) (add_rounds f x y p q) (add_rounds f x' y' p' q')
    (add_cross (plus_part x) (minus_part x) (den x) (plus_part x') (minus_part x') (den x') (plus_part y) (minus_part y) (den y) (plus_part y') (minus_part y') (den y') (le→below x x' p p' h) (le→below y y' q q' k))

pub sub_mono : (f : Format) (x x' y y' : Float) → Finite x → Finite x' → Finite y → Finite y' → x ≼ x' → y' ≼ y → sub f x y ≼ sub f x' y'
unfolding sub
sub_mono f x x' y y' p p' q q' h k =
    add_mono f x x' (neg y) (neg y') p p' (rw (finite_neg y) q) (rw (finite_neg y') q') h (neg_le y' y k)

-- ---- a product with a factor y, by y's sign

mul_cross_plus : (px nx dx px' nx' dx' py dy : ℕ) → px * dx' + nx' * dx ≤ px' * dx + nx * dx'
    → (px * py + nx * 0) * (dx' * dy) + (px' * 0 + nx' * py) * (dx * dy) ≤ (px' * py + nx' * 0) * (dx * dy) + (px * 0 + nx * py) * (dx' * dy)
mul_cross_plus px nx dx px' nx' dx' py dy h = step (mul-le-mul_right (py * dy) h)
  where
    step : (px * dx' + nx' * dx) * (py * dy) ≤ (px' * dx + nx * dx') * (py * dy)
        → (px * py + nx * 0) * (dx' * dy) + (px' * 0 + nx' * py) * (dx * dy) ≤ (px' * py + nx' * 0) * (dx * dy) + (px * 0 + nx * py) * (dx' * dy)
    step a = omega arith

mul_cross_minus : (px nx dx px' nx' dx' ny dy : ℕ) → px * dx' + nx' * dx ≤ px' * dx + nx * dx'
    → (px' * 0 + nx' * ny) * (dx * dy) + (px * ny + nx * 0) * (dx' * dy) ≤ (px * 0 + nx * ny) * (dx' * dy) + (px' * ny + nx' * 0) * (dx * dy)
mul_cross_minus px nx dx px' nx' dx' ny dy h = step (mul-le-mul_right (ny * dy) h)
  where
    step : (px * dx' + nx' * dx) * (ny * dy) ≤ (px' * dx + nx * dx') * (ny * dy)
        → (px' * 0 + nx' * ny) * (dx * dy) + (px * ny + nx * 0) * (dx' * dy) ≤ (px * 0 + nx * ny) * (dx' * dy) + (px' * ny + nx' * 0) * (dx * dy)
    step a = omega arith

module _ (f : Format) (n : ℕ) (d : ℤ) (x x' : Float) (p : Finite x) (p' : Finite x') (h : x ≼ x') where
  mul_mono : mul f x (fin false n d) ≼ mul f x' (fin false n d)
  unfolding is_finite
  mul_mono =
      let y = fin false n d in
      rounds_mono f (mul f x y) (mul f x' y) _ _ _ _ _ _ (mul-pos (den_pos x) (den_pos y))
      (mul-pos (den_pos x') (den_pos y)) (mul_rounds f x y p tt) (mul_rounds f x' y p' tt)
      (mul_cross_plus (plus_part x) (minus_part x) (den x) (plus_part x') (minus_part x') (den x') (n * up d) (down d) (le→below x x' p p' h))

  mul_anti : mul f x' (fin true n d) ≼ mul f x (fin true n d)
  unfolding is_finite
  mul_anti =
      let y = fin true n d in
      rounds_mono f (mul f x' y) (mul f x y) _ _ _ _ _ _ (mul-pos (den_pos x') (den_pos y))
      (mul-pos (den_pos x) (den_pos y)) (mul_rounds f x' y p' tt) (mul_rounds f x y p tt)
      (mul_cross_minus (plus_part x) (minus_part x) (den x) (plus_part x') (minus_part x') (den x') (n * up d) (down d) (le→below x x' p p' h))

-- for x from a to b
pub mul_amid : (f : Format) (a x b y : Float) → Finite a → Finite x → Finite b → Finite y → a ≼ x → x ≼ b
    → Amid (mul f a y) (mul f b y) (mul f x y)
unfolding is_finite
mul_amid f a x b nan p q r s h k = absurd s
mul_amid f a x b (inf t) p q r s h k = absurd s
mul_amid f a x b (fin false n d) p q r s h k = inl (mul_mono f n d a x p q h, mul_mono f n d x b q r k)
mul_amid f a x b (fin true n d) p q r s h k = inr (mul_anti f n d x b q r k, mul_anti f n d a x p q h)

-- ---- quotients by a divisor above zero

num_pos : (y : Float) → T (positive y) → 0 < num y
num_pos nan p = absurd p
num_pos (inf s) p = absurd p
num_pos (fin true m e) p = absurd p
num_pos (fin false m e) p = mul-pos (ltb→lt 0 m p) (up_pos e)

div_cross : (px nx dx px' nx' dx' m dy : ℕ) → px * dx' + nx' * dx ≤ px' * dx + nx * dx'
    → px * dy * (m * dx') + nx' * dy * (m * dx) ≤ px' * dy * (m * dx) + nx * dy * (m * dx')
div_cross px nx dx px' nx' dx' m dy h = step (mul-le-mul_right (dy * m) h)
  where
    step : (px * dx' + nx' * dx) * (dy * m) ≤ (px' * dx + nx * dx') * (dy * m)
        → px * dy * (m * dx') + nx' * dy * (m * dx) ≤ px' * dy * (m * dx) + nx * dy * (m * dx')
    step a = omega arith

pub div_mono : (f : Format) (x x' y : Float) → Finite x → Finite x' → T (positive y) → x ≼ x' → div f x y ≼ div f x' y
div_mono f x x' y p p' q h =
    rounds_mono f (div f x y) (div f x' y) _ _ _ _ _ _ (mul-pos (num_pos y q) (den_pos x))
    (mul-pos (num_pos y q) (den_pos x')) (div_rounds f x y p q) (div_rounds f x' y p' q)
    (div_cross (plus_part x) (minus_part x) (den x) (plus_part x') (minus_part x') (den x') (num y) (den y) (le→below x x' p p' h))

-- the larger divisor brings the quotient nearer to zero
less_cross : (a dx mc dc my dy : ℕ) → mc * dy ≤ my * dc → a * dy * (mc * dx) ≤ a * dc * (my * dx)
less_cross a dx mc dc my dy h = step (mul-le-mul_right (a * dx) h)
  where
    step : mc * dy * (a * dx) ≤ my * dc * (a * dx) → a * dy * (mc * dx) ≤ a * dc * (my * dx)
    step k = omega arith

module _ (f : Format) (m : ℕ) (e : ℤ) (c y : Float) (p : T (positive c)) (q : T (positive y)) (h : c ≼ y) where
  div_less : div f (fin false m e) y ≼ div f (fin false m e) c
  unfolding is_finite
  div_less =
      let x = fin false m e in
      rounds_mono f (div f x y) (div f x c) _ _ _ _ _ _ (mul-pos (num_pos y q) (den_pos x))
      (mul-pos (num_pos c p) (den_pos x)) (div_rounds f x y tt q) (div_rounds f x c tt p)
      (omega (arith, less_cross (m * up e) (down e) (num c) (den c) (num y) (den y) (le→cross c y p q h)))

  div_more : div f (fin true m e) c ≼ div f (fin true m e) y
  unfolding is_finite
  div_more =
      let x = fin true m e in
      rounds_mono f (div f x c) (div f x y) _ _ _ _ _ _ (mul-pos (num_pos c p) (den_pos x))
      (mul-pos (num_pos y q) (den_pos x)) (div_rounds f x c tt p) (div_rounds f x y tt q)
      (omega (arith, less_cross (m * up e) (down e) (num c) (den c) (num y) (den y) (le→cross c y p q h)))

-- for y from c to d
pub div_amid : (f : Format) (x c y d : Float) → Finite x → T (positive c) → T (positive y) → T (positive d) → c ≼ y
    → y ≼ d → Amid (div f x c) (div f x d) (div f x y)
unfolding is_finite
div_amid f nan c y d p q r s h k = absurd p
div_amid f (inf t) c y d p q r s h k = absurd p
div_amid f (fin false m e) c y d p q r s h k = inr (div_less f m e y d r s k, div_less f m e c y q r h)
div_amid f (fin true m e) c y d p q r s h k = inl (div_more f m e c y q r h, div_more f m e y d r s k)
