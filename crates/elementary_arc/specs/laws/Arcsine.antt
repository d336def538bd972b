-- The arcsine of a number of size 1 at most is answered: neither the root nor the arctangent is refused, and the answer bears the
-- number's sign and is a quarter turn at most. So 7 is the only refusal of a finite number, and 14 is never met.
use Rattle.std.proofs.Math.Path.{◌≡◌}
use Rattle.std.specs.Prelude.{refl, ℕ, Bool, true, not, ◌&&◌, cond, T, Float, ◌≢◌}
use Rattle.std.proofs.Common.{ap, ◌∙◌, subst, T_not}
use native.Mathlib.Omega.{arith}
use Rattle.std.proofs.Math.Bool.{false}
use Rattle.std.specs.Float.{nan, inf, fin}
use Rattle.std.specs.Float.Ieee.{binary64, neg, add, sub, mul, le, lt, fits, of_bits, round}
use Rattle.std.specs.Float.Ieee.Bits.{is_true, is_false}
use Rattle.std.specs.Float.Ieee.Fits.{mul-fits}
use Rattle.double.specs.rules.Operations.{zero, one, two, ◌⊕◌, ◌⊖◌}
use Rattle.double.specs.rules.Sign.{bears_minus, negated_if, size, is_finite}
use Rattle.double.specs.rules.Order.{◌≼◌, is_zero, NonZero, Finite, Plus, Between}
use Rattle.double.specs.rules.Table.{over}
use Rattle.double.specs.notions.Range.{known, con, ◌⊞◌, ◌⊟◌, ◌⊠◌}
use Rattle.double.specs.laws.Tests.{holds, fails}
use Rattle.double.specs.laws.Sign.{finite_size, no_minus_of_plus}
use Rattle.double.specs.laws.Order.{le_of_not_lt, not_lt_of_le}
use Rattle.double.specs.laws.Between.{finite_zero, finite_one, size→between}
use Rattle.double.specs.laws.Zero.{size_of_zero}
use Rattle.double.specs.laws.Exact.{squeezed}
use Rattle.double.specs.laws.Interval.{bounded}
use Rattle.double.specs.laws.NearZero.{mul_plus, add_plus, sub_plus}
use Rattle.quantity.specs.rules.Angle.{rad, HALF}
use Rattle.quantity.specs.declared.Rad.{Rad}
use Rattle.quantity.specs.rules.Answer.{answered, refused, unless, then}
use Rattle.double.specs.laws.Apart.{apart}
use Rattle.quantity.specs.notions.Code.{of_rad, of_answer}
use Rattle.quantity.specs.laws.Steps.{same_number}
use Rattle.double.specs.rules.Count.{IsFromZero}
use Rattle.root.specs.rules.Root.{root_of}
use Rattle.root.specs.laws.Root.{root_from_zero, root_answered}
use Rattle.root.specs.notions.Computed as root
use Rattle.elementary_arc.specs.rules.Arctangent.{base, arctangent_of, both_zero}
use Rattle.elementary_arc.specs.rules.Arcsine.{square, arcsine_in, arcsine_rule}
use Rattle.elementary_arc.specs.notions.Computed.{computed}
use Rattle.elementary_arc.specs.laws.Arctangent.{arctangent_answered, arctangent_ahead, arctangent_sign, arctangent_finite, arctangent_at_most_half}

abbrev arcsine_of : Float → Rad
arcsine_of s = arctangent_of s (root_of (square s))

root_of_one : NonZero (root_of one)
unfolding root.computed
root_of_one = tt

size_no_minus : (x : Float) → bears_minus x ≡ false → size x ≡ x
unfolding bears_minus size
size_no_minus nan h = refl
size_no_minus (inf true) h = absurd (subst T h tt)
size_no_minus (inf false) h = refl
size_no_minus (fin true m e) h = absurd (subst T h tt)
size_no_minus (fin false m e) h = refl

module _ (s : Float) (h : size s ≼ one) where
  place : Between (neg one) one s
  place = size→between one s finite_one h

  square_plus : Plus (square s)
  unfolding is_finite le neg add sub of_bits
  square_plus =
      let less = bounded binary64 zero two (con one ⊟ known place) tt in
      let more = bounded binary64 zero two (con one ⊞ known place) tt in
      mul_plus binary64 (one ⊖ s) (one ⊕ s) less.finite more.finite
      (sub_plus binary64 one s tt place.finite tt place.to)
      (add_plus binary64 one s tt place.finite tt place.from)

  square_finite : Finite (square s)
  unfolding is_finite le neg add sub mul of_bits round
  square_finite = (bounded binary64 zero (over 4 1) ((con one ⊟ known place) ⊠ (con one ⊞ known place)) tt).finite

  square_from_zero : IsFromZero (square s)
  square_from_zero =
      record {
        held = mul-fits binary64 (one ⊖ s) (one ⊕ s);
        finite = is_true (is_finite (square s)) square_finite;
        plus = no_minus_of_plus (square s) square_plus;
      }

  root_double : IsFromZero (root_of (square s))
  root_double = root_from_zero (square s) square_from_zero

  root_finite : Finite (root_of (square s))
  root_finite = holds root_double.finite

  -- of a zero the square is 1, so that the arctangent never meets two zeros
  square_of_zero : T (is_zero s) → square s ≡ one
  unfolding is_finite le neg add sub mul of_bits fits
  square_of_zero z =
      let at_zero = size→between zero s finite_zero (size_of_zero s z) in
      squeezed one (square s) tt (mul-fits binary64 (one ⊖ s) (one ⊕ s)) tt square_plus
      (bounded binary64 one one ((con one ⊟ known at_zero) ⊠ (con one ⊞ known at_zero)) tt)

  pub arcsine_of_no_zeros : T (not (both_zero s (root_of (square s))))
  arcsine_of_no_zeros = by_case (is_zero s) (λ z. z)
    where
      by_case : (b : Bool) → (T b → T (is_zero s)) → T (not (b && is_zero (root_of (square s))))
      by_case true z = rw (square_of_zero (z tt)) root_of_one
      by_case false z = tt

  -- neither the root nor the arctangent is refused
  pub arcsine_answered : arcsine_in s ≡ answered (arcsine_of s)
  unfolding arcsine_in then
  arcsine_answered =
      rw (not_past, root_answered (square s) square_from_zero.finite square_from_zero.plus)
      (arctangent_answered s (root_of (square s)) arcsine_of_no_zeros)
    where
      not_past : lt one (size s) ≡ false
      not_past = is_false (lt one (size s)) (not_lt_of_le (size s) one (rw (finite_size s) place.finite) finite_one h)

  -- base with s's sign, since the root bears no minus sign
  pub arcsine_by_base : arcsine_in s ≡ answered (rad (negated_if (bears_minus s) (base (size s) (root_of (square s)))))
  arcsine_by_base =
      arcsine_answered
      ∙ ap answered
      (arctangent_ahead s (root_of (square s)) place.finite root_finite arcsine_of_no_zeros root_double.plus
      (size_no_minus (root_of (square s)) root_double.plus))

-- what is neither up to 1 in size nor past it is a NaN, which the root refuses
pub arcsine_of_neither : (s : Float) → T (not (le (size s) one)) → T (not (lt one (size s))) → arcsine_in s ≡ refused 1
unfolding computed
arcsine_of_neither nan up past = refl
arcsine_of_neither (inf t) up past = absurd past
arcsine_of_neither (fin t m d) up past =
    absurd (T_not (le (size (fin t m d)) one) up (le_of_not_lt one (size (fin t m d)) finite_one tt past))

-- ---- what it answers to a finite number

module _ (s : Float) (p : Finite s) where
  past_one : lt one (size s) ≡ true → arcsine_in s ≡ refused 7
  unfolding arcsine_in
  past_one t = rw t

  up_to_one : lt one (size s) ≡ false → size s ≼ one
  up_to_one t = le_of_not_lt one (size s) finite_one (rw (finite_size s) p) (fails t)

  -- 7 is the only refusal, and is given only past 1 in size
  pub arcsine_refuses_seven : (n : ℕ) → arcsine_in s ≡ refused n → (n ≡ 7) × T (lt one (size s))
  arcsine_refuses_seven n e = by_case (lt one (size s)) refl
    where
      by_case : (b : Bool) → lt one (size s) ≡ b → (n ≡ 7) × T (lt one (size s))
      by_case true t = (cc (past_one t), holds t)
      by_case false t =
          let a = arcsine_answered s (up_to_one t) in
          let z : ◌≡◌ {A = ℕ} 0 1 = cc in
          absurd (omega arith)

  module _ (v : Rad) (e : arcsine_in s ≡ answered v) where
    within_one : size s ≼ one
    within_one = by_case (lt one (size s)) refl
      where
        by_case : (b : Bool) → lt one (size s) ≡ b → size s ≼ one
        by_case true t =
            let a = past_one t in
            let z : ◌≡◌ {A = ℕ} 0 1 = cc in
            absurd (omega arith)
        by_case false t = up_to_one t

    is_arcsine : v ≡ arcsine_of s
    is_arcsine = cc (arcsine_answered s within_one)

    -- the answer bears s's sign
    pub arcsine_sign : bears_minus v.0 ≡ bears_minus s
    arcsine_sign = rw is_arcsine (arctangent_sign s (root_of (square s)) p (root_finite s within_one) (arcsine_of_no_zeros s within_one))

    pub arcsine_finite : Finite v.0
    arcsine_finite = rw is_arcsine (arctangent_finite s (root_of (square s)) p (root_finite s within_one) (arcsine_of_no_zeros s within_one))

    -- a quarter turn at most
    pub arcsine_at_most_half : size v.0 ≼ HALF
    arcsine_at_most_half =
        rw is_arcsine
        (arctangent_at_most_half s (root_of (square s)) p (root_finite s within_one) (arcsine_of_no_zeros s within_one)
        (root_double s within_one).plus)

-- ---- 14 is never met, of any number: inner, and called alone

of_nan : arcsine_in nan ≢ refused 14
unfolding computed
of_nan = apart (of_answer of_rad) refl

of_infinity : (t : Bool) → arcsine_in (inf t) ≢ refused 14
unfolding computed
of_infinity t = apart (of_answer of_rad) refl

pub arcsine_never_meets_fourteen : (s : Float) → arcsine_in s ≢ refused 14
arcsine_never_meets_fourteen nan = of_nan
arcsine_never_meets_fourteen (inf t) = of_infinity t
arcsine_never_meets_fourteen (fin t m d) = λ e. no (arcsine_refuses_seven (fin t m d) (unfold is_finite in tt) 14 e).0
  where
    no : ◌≡◌ {A = ℕ} 14 7 → ⊥
    no h = omega arith

pub arcsine_alone_never_meets_fourteen : (s : Float) → arcsine_rule s ≢ refused 14
unfolding arcsine_rule
arcsine_alone_never_meets_fourteen s e = by_case (is_finite s) e
  where
    no : ◌≡◌ {A = ℕ} 1 14 → ⊥
    no h = omega arith

    by_case : (b : Bool) → unless (cond b 0 1) (arcsine_in s) ≡ refused 14 → ⊥
    by_case true e = arcsine_never_meets_fourteen s e
    by_case false e = no (same_number e)
