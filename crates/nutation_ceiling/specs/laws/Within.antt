-- What is at most a bound in size stays so through each operation, done to the bounds alike, where the result is finite; and what is
-- finite was made of what is finite.
use Rattle.std.specs.Prelude.{◌≡◌, ◌+◌, ◌*◌, Bool, cond, T, eqb, Float}
use Rattle.std.proofs.Common.{subst, inl, inr}
use Rattle.std.proofs.Math.Bool.{true, false}
use Rattle.std.specs.Bool.{beq}
use Rattle.std.specs.Float.Ieee.{nan, unlike, up, down, neg, sum, add, mul, div}
use Rattle.std.specs.Float.{inf, fin, Format}
use Rattle.std.specs.Float.Ieee.Positive.{positive}
use Rattle.double.specs.rules.Sign.{is_finite, size}
use Rattle.double.specs.rules.Order.{◌≼◌, Finite, Plus, Between}
use Rattle.double.specs.notions.Range.{Amid}
use Rattle.double.specs.laws.Sign.{neg_neg, finite_neg, finite_size, plus_size}
use Rattle.double.specs.laws.Order.{le_refl, le_trans, minus_le_plus}
use Rattle.double.specs.laws.Between.{between, size→between, between→size}
use Rattle.double.specs.laws.Mirror.{mul_comm, mul_neg_l, mul_neg_r, div_neg_l}
use Rattle.double.specs.laws.Monotone.{add_mono, mul_amid, div_mono}
use Rattle.double.specs.laws.NearZero.{mul_plus, add_plus, div_plus}
use Rattle.double.specs.laws.Rounding.{round_neg}
use Rattle.nutation_ceiling.specs.notions.Walk.{Under}

-- ---- a bound of itself, and of a size

turned : (x : Float) → Finite x → Finite (neg x)
turned x p = rw (finite_neg x) p

module _ (b : Float) (p : Finite b) (q : Plus b) where
  itself : Between (neg b) b b
  itself = between (turned b p) p (minus_le_plus b b q q) (le_refl b p)

  negated : Between (neg b) b (neg b)
  negated = between (turned b p) p (le_refl (neg b) (turned b p)) (minus_le_plus b b q q)

  pub under_itself : Under b b
  under_itself = record { plain = q; between = itself }

-- of a size up to the bound
pub under_of_size : (b x : Float) → Finite b → Plus b → size x ≼ b → Under b x
under_of_size b x p q h = record { plain = q; between = size→between b x p h }

pub size_under : (b x : Float) → Under b x → size x ≼ b
size_under b x u = between→size b x u.between

pub under_size : (x : Float) → Finite (size x) → Under (size x) x
under_size x p = under_of_size (size x) x p (plus_size x (rw (← finite_size x) p)) (le_refl (size x) p)

pub size_itself : (x : Float) → Finite (size x) → Under (size x) (size x)
size_itself x p = under_itself (size x) p (plus_size x (rw (← finite_size x) p))

-- ---- a product

amid : (a b p q z : Float) → Between a b p → Between a b q → Amid p q z → Between a b z
amid a b p q z i j (inl m) = between i.start i.end (le_trans a p z i.from m.0) (le_trans z q b m.1 j.to)
amid a b p q z i j (inr m) = between i.start i.end (le_trans a q z j.from m.0) (le_trans z p b m.1 i.to)

module _ (f : Format) where
  along : (lo hi e c d y : Float) → Finite e → Between c d y → Between lo hi (mul f e c) → Between lo hi (mul f e d)
      → Between lo hi (mul f e y)
  along lo hi e c d y p q i j =
      rw (mul_comm f e y)
      (amid lo hi (mul f c e) (mul f d e) (mul f y e) (rw (mul_comm f c e) i) (rw (mul_comm f d e) j)
      (mul_amid f c y d e q.start q.finite q.end p q.from q.to))

  pub under_mul : (b c x y : Float) → Under b x → Under c y → Finite (mul f b c) → Under (mul f b c) (mul f x y)
  under_mul b c x y u w p =
      let i = u.between in
      let j = w.between in
      let m = mul f b c in
      let q = mul_plus f b c i.end j.end u.plain w.plain in
      let least : Between (neg m) m (mul f b (neg c)) = rw (mul_neg_r f b c) (negated m p q) in
      let most : Between (neg m) m (mul f (neg b) (neg c)) = rw (mul_neg_l f b (neg c), mul_neg_r f b c, neg_neg m) (itself m p q) in
      let other : Between (neg m) m (mul f (neg b) c) = rw (mul_neg_l f b c) (negated m p q) in
      record {
        plain = q;
        between =
            amid (neg m) m (mul f (neg b) y) (mul f b y) (mul f x y)
            (along (neg m) m (neg b) (neg c) c y i.start j most other) (along (neg m) m b (neg c) c y i.end j least (itself m p q))
            (mul_amid f (neg b) x b y i.start i.finite i.end j.finite i.from i.to);
      }

  -- ---- a sum

  add_negated : (x y : Float) → Finite x → Finite y → Plus x → Plus y → add f (neg x) (neg y) ≡ neg (add f x y)
  unfolding is_finite add sum neg
  add_negated nan y p q r s = absurd p
  add_negated (inf u) y p q r s = absurd p
  add_negated (fin true m e) y p q r s = absurd r
  add_negated (fin false m e) nan p q r s = absurd q
  add_negated (fin false m e) (inf u) p q r s = absurd q
  add_negated (fin false m e) (fin true n d) p q r s = absurd s
  add_negated (fin false m e) (fin false n d) p q r s =
      round_neg f false (m * up e * down d + n * up d * down e) (down e * down d)

  pub under_add : (b c x y : Float) → Under b x → Under c y → Finite (add f b c) → Under (add f b c) (add f x y)
  under_add b c x y u w p =
      let i = u.between in
      let j = w.between in
      let a = add f b c in
      record {
        plain = add_plus f b c i.end j.end u.plain (minus_le_plus b c u.plain w.plain);
        between =
            between (turned a p) p
            (subst (λ (z : Float). z ≼ add f x y) (add_negated b c i.end j.end u.plain w.plain)
            (add_mono f (neg b) x (neg c) y i.start i.finite j.start j.finite i.from j.from))
            (add_mono f x b y c i.finite i.end j.finite j.end i.to j.to);
      }

  -- ---- a quotient by a divisor above zero

  pub under_div : (b x y : Float) → Under b x → T (positive y) → Finite (div f b y) → Under (div f b y) (div f x y)
  under_div b x y u Y p =
      let i = u.between in
      let d = div f b y in
      record {
        plain = div_plus f b y i.end u.plain Y;
        between =
            between (turned d p) p
            (subst (λ (z : Float). z ≼ div f x y) (div_neg_l f b y) (div_mono f (neg b) x y i.start i.finite Y i.from))
            (div_mono f x b y i.finite i.end Y i.to);
      }

  -- ---- what is finite was made of what is finite

  no_infinity : (b s : Bool) → Finite (cond b nan (inf s)) → ⊥
  unfolding is_finite
  no_infinity true s t = t
  no_infinity false s t = t

  pub mul_back : (x y : Float) → Finite (mul f x y) → Finite x × Finite y
  unfolding mul is_finite
  mul_back nan y t = absurd t
  mul_back (inf s) nan t = absurd t
  mul_back (inf s) (inf u) t = absurd t
  mul_back (inf s) (fin u n d) t = absurd (no_infinity (eqb n 0) (unlike s u) t)
  mul_back (fin s m e) nan t = absurd t
  mul_back (fin s m e) (inf u) t = absurd (no_infinity (eqb m 0) (unlike s u) t)
  mul_back (fin s m e) (fin u n d) t = (tt, tt)

  no_sum : (b s : Bool) → Finite (cond b (inf s) nan) → ⊥
  unfolding is_finite
  no_sum true s t = t
  no_sum false s t = t

  pub add_back : (x y : Float) → Finite (add f x y) → Finite x × Finite y
  unfolding add is_finite
  add_back nan y t = absurd t
  add_back (inf s) nan t = absurd t
  add_back (inf s) (inf u) t = absurd (no_sum (beq s u) s t)
  add_back (inf s) (fin u n d) t = absurd t
  add_back (fin s m e) nan t = absurd t
  add_back (fin s m e) (inf u) t = absurd t
  add_back (fin s m e) (fin u n d) t = (tt, tt)

  pub div_back : (x y : Float) → Finite (div f x y) → Finite x
  unfolding div is_finite
  div_back nan y t = absurd t
  div_back (inf s) nan t = absurd t
  div_back (inf s) (inf u) t = absurd t
  div_back (inf s) (fin u n d) t = absurd t
  div_back (fin s m e) y t = tt
