-- A bound on an expression is a closed test: `bounded f a b e tt` proves that e's value lies from a to b, where e's range, computed
-- from the bounds of what stands in e, does. `known i` stands for a double with the bounds i, `con c` for a constant; the proof unfolds
-- `is_finite`, `le` and the operations and roundings that stand in e. One theorem, `sound`, is behind it.
use Rattle.std.proofs.Common.{inl, inr}
use Rattle.std.specs.Prelude.{Bool, true, false, ◌&&◌, T, Float}
use Rattle.std.specs.Float.{nan, inf, fin, Format}
use Rattle.std.specs.Float.Ieee.{add, sub, mul, div, le}
use Rattle.std.specs.Float.Ieee.Fits.{and_l, and_r}
use Rattle.std.specs.Float.Ieee.Positive.{positive, above, above_of_le}
use Rattle.double.specs.rules.Sign.{is_finite}
use Rattle.double.specs.rules.Order.{◌≼◌, Finite, Between}
use Rattle.double.specs.notions.Range.{Amid, Range, unknown, ◌to◌, In, span, lesser, greater, is_between, hull, add_range, sub_range, mul_range}
use Rattle.double.specs.notions.Range.{div_range, Expr, known, con, ◌⊞◌, ◌⊟◌, ◌⊠◌, ◌⧄◌, value, range, inside}
use Rattle.double.specs.laws.Tests.{by_test}
use Rattle.double.specs.laws.Mirror.{mul_comm}
use Rattle.double.specs.laws.Order.{le_trans}
use Rattle.double.specs.laws.Between.{between, between_itself, between_wider}
use Rattle.double.specs.laws.Monotone.{add_mono, sub_mono, mul_amid, div_mono, div_amid}

-- ---- what the tests tell

module _ (a b z : Float) where
  between_of : T (is_between a b z) → Between a b z
  between_of t =
      let t' = and_r (is_finite a) (is_finite b && (le a z && le z b)) t in
      let t'' = and_r (is_finite b) (le a z && le z b) t' in
      between (and_l (is_finite a) (is_finite b && (le a z && le z b)) t) (and_l (is_finite b) (le a z && le z b) t')
      (and_l (le a z) (le z b) t'') (and_r (le a z) (le z b) t'')

  in_span : a ≼ z → z ≼ b → In (span a b) z
  in_span h k =
      by_test (λ (r : Range). In r z) (is_finite a && is_finite b) (a to b) unknown
      (λ t. between (and_l (is_finite a) (is_finite b) t) (and_r (is_finite a) (is_finite b) t) h k)
      (λ t. tt)

-- z lies in the hull of four values if it lies wherever they all do
in_hull : (p q r s z : Float)
    → ((a b : Float) → Between a b p → Between a b q → Between a b r → Between a b s → Between a b z)
    → In (hull p q r s) z
in_hull p q r s z k =
    by_test (λ (i : Range). In i z) (P && (Q && (R && S))) (a to b) unknown
    (λ t.
    k a b (between_of a b p (and_l P (Q && (R && S)) t)) (between_of a b q (and_l Q (R && S) (and_r P (Q && (R && S)) t)))
    (between_of a b r (and_l R S (and_r Q (R && S) (and_r P (Q && (R && S)) t))))
    (between_of a b s (and_r R S (and_r Q (R && S) (and_r P (Q && (R && S)) t)))))
    (λ t. tt)
  where
    a : Float
    a = lesser (lesser p q) (lesser r s)

    b : Float
    b = greater (greater p q) (greater r s)

    P : Bool
    P = is_between a b p

    Q : Bool
    Q = is_between a b q

    R : Bool
    R = is_between a b r

    S : Bool
    S = is_between a b s

-- what lies between two values lies where they both do
amid : (a b p q z : Float) → Between a b p → Between a b q → Amid p q z → Between a b z
amid a b p q z i j (inl m) = between i.start i.end (le_trans a p z i.from m.0) (le_trans z q b m.1 j.to)
amid a b p q z i j (inr m) = between i.start i.end (le_trans a q z j.from m.0) (le_trans z p b m.1 i.to)

-- ---- each operation on ranges

positive_of_le : (c y : Float) → T (positive c) → Finite y → c ≼ y → T (positive y)
positive_of_le c y p q h = at_y y q (above_of_le c y p h)
  where
    at_y : (y : Float) → Finite y → T (above y) → T (positive y)
    at_y nan p q = absurd q
    at_y (inf s) p q = absurd (unfold is_finite in p)
    at_y (fin true m e) p q = q
    at_y (fin false m e) p q = q

module _ (f : Format) where
  add_in_lem : (i j : Range) (x y : Float) → In i x → In j y → In (add_range f i j) (add f x y)
  add_in_lem unknown j x y p q = tt
  add_in_lem (a to b) unknown x y p q = tt
  add_in_lem (a to b) (c to d) x y p q =
      in_span (add f a c) (add f b d) (add f x y)
      (add_mono f a x c y p.start p.finite q.start q.finite p.from q.from)
      (add_mono f x b y d p.finite p.end q.finite q.end p.to q.to)

  sub_in : (i j : Range) (x y : Float) → In i x → In j y → In (sub_range f i j) (sub f x y)
  sub_in unknown j x y p q = tt
  sub_in (a to b) unknown x y p q = tt
  sub_in (a to b) (c to d) x y p q =
      in_span (sub f a d) (sub f b c) (sub f x y)
      (sub_mono f a x d y p.start p.finite q.end q.finite p.from q.to)
      (sub_mono f x b y c p.finite p.end q.finite q.start p.to q.from)

  -- a factor e, and y from c to d
  along : (lo hi e c d y : Float) → Finite e → Between c d y → Between lo hi (mul f e c) → Between lo hi (mul f e d)
      → Between lo hi (mul f e y)
  along lo hi e c d y p q i j =
      rw (mul_comm f e y)
      (amid lo hi (mul f c e) (mul f d e) (mul f y e) (rw (mul_comm f c e) i) (rw (mul_comm f d e) j)
      (mul_amid f c y d e q.start q.finite q.end p q.from q.to))

  mul_in : (i j : Range) (x y : Float) → In i x → In j y → In (mul_range f i j) (mul f x y)
  mul_in unknown j x y p q = tt
  mul_in (a to b) unknown x y p q = tt
  mul_in (a to b) (c to d) x y p q =
      in_hull (mul f a c) (mul f a d) (mul f b c) (mul f b d) (mul f x y)
      (λ lo hi i j k l.
      amid lo hi (mul f a y) (mul f b y) (mul f x y) (along lo hi a c d y p.start q i j) (along lo hi b c d y p.end q k l)
      (mul_amid f a x b y p.start p.finite p.end q.finite p.from p.to))

  div_in : (i j : Range) (x y : Float) → In i x → In j y → In (div_range f i j) (div f x y)
  div_in unknown j x y p q = tt
  div_in (a to b) unknown x y p q = tt
  div_in (a to b) (c to d) x y p q =
      by_test (λ (i : Range). In i (div f x y)) (positive c) (hull (div f a c) (div f a d) (div f b c) (div f b d)) unknown
      (λ C.
      let Y = positive_of_le c y C q.finite q.from in
      let D = positive_of_le y d Y q.end q.to in
      in_hull (div f a c) (div f a d) (div f b c) (div f b d) (div f x y)
      (λ lo hi i j k l.
      amid lo hi (div f a y) (div f b y) (div f x y)
      (amid lo hi (div f a c) (div f a d) (div f a y) i j (div_amid f a c y d p.start C Y D q.from q.to))
      (amid lo hi (div f b c) (div f b d) (div f b y) k l (div_amid f b c y d p.end C Y D q.from q.to))
      (inl (div_mono f a x y p.start p.finite Y p.from, div_mono f x b y p.finite p.end Y p.to))))
      (λ t. tt)

  con_in : (c : Float) → In (span c c) c
  con_in c =
      by_test (λ (i : Range). In i c) (is_finite c && is_finite c) (c to c) unknown
      (λ t. between_itself (and_l (is_finite c) (is_finite c) t)) (λ t. tt)

  -- ---- an expression's value lies in its range

  pub sound : (e : Expr) → In (range f e) (value f e)
  sound (known i) = i
  sound (con c) = con_in c
  sound (d ⊞ e) = add_in_lem (range f d) (range f e) (value f d) (value f e) (sound d) (sound e)
  sound (d ⊟ e) = sub_in (range f d) (range f e) (value f d) (value f e) (sound d) (sound e)
  sound (d ⊠ e) = mul_in (range f d) (range f e) (value f d) (value f e) (sound d) (sound e)
  sound (d ⧄ e) = div_in (range f d) (range f e) (value f d) (value f e) (sound d) (sound e)

  widened : (a b : Float) (i : Range) (z : Float) → T (inside a b i) → In i z → Between a b z
  widened a b unknown z t p = absurd t
  widened a b (c to d) z t p =
      let t' = and_r (is_finite a) (is_finite b && (le a c && le d b)) t in
      let t'' = and_r (is_finite b) (le a c && le d b) t' in
      between_wider (and_l (is_finite a) (is_finite b && (le a c && le d b)) t) (and_l (is_finite b) (le a c && le d b) t')
      (and_l (le a c) (le d b) t'') (and_r (le a c) (le d b) t'') p

  pub bounded : (a b : Float) (e : Expr) → T (inside a b (range f e)) → Between a b (value f e)
  bounded a b e t = widened a b (range f e) (value f e) t (sound e)
