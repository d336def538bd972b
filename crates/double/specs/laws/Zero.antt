-- What is zero, of either sign: a minus sign and a size keep it so, and so does negating both operands of a sum or a difference.
use Rattle.std.specs.Prelude.{◌≡◌, ◌*◌, Bool, true, false, ◌&&◌, ◌||◌, T, ◌==◌, refl, Float}
use Rattle.std.proofs.Common.{sym, ap, ◌∙◌, zero-mul}
use Rattle.std.specs.Float.{nan, inf, fin, Format}
use Rattle.std.specs.Float.Ieee.{up, down, neg, add, sub, eq, le, lt, of_bits}
use Rattle.std.specs.Float.Ieee.Bits.{is_true}
use Rattle.double.specs.rules.Operations.{zero}
use Rattle.double.specs.rules.Sign.{size}
use Rattle.double.specs.rules.Order.{◌≼◌, is_zero}
use Rattle.double.specs.laws.Tests.{fails}
use Rattle.double.specs.laws.Sign.{neg_neg, size_neg}
use Rattle.double.specs.laws.Mirror.{add_neg_neg}

twice : (t : Bool) → (t && true) ≡ (t && t)
twice true = refl
twice false = refl

pub zero_size : (x : Float) → is_zero (size x) ≡ is_zero x
unfolding size eq of_bits
zero_size nan = refl
zero_size (inf s) = refl
zero_size (fin true m e) = rw (zero-mul (down e)) (twice (m * up e * 1 == 0))
zero_size (fin false m e) = refl

or_true : (a : Bool) → T (a || true)
or_true true = tt
or_true false = tt

pub size_of_zero : (x : Float) → T (is_zero x) → size x ≼ zero
unfolding le
size_of_zero x z = rw (zero_size x, is_true (is_zero x) z) (or_true (lt (size x) zero))

pub zero_neg : (x : Float) → is_zero (neg x) ≡ is_zero x
zero_neg x = sym (zero_size (neg x)) ∙ ap is_zero (size_neg x) ∙ zero_size x

pub add_zero_neg : (f : Format) (x y : Float) → is_zero (add f (neg x) (neg y)) ≡ is_zero (add f x y)
add_zero_neg f x y = by-there (is_zero (add f (neg x) (neg y))) refl
  where
    back : add f (neg (neg x)) (neg (neg y)) ≡ add f x y
    back = rw (neg_neg x, neg_neg y)

    by-here : (b : Bool) → is_zero (add f x y) ≡ b → is_zero (add f (neg x) (neg y)) ≡ true
        → is_zero (add f (neg x) (neg y)) ≡ is_zero (add f x y)
    by-here true h t = t ∙ sym h
    by-here false h t = ap is_zero (add_neg_neg f x y (fails h)) ∙ zero_neg (add f x y)

    by-there : (b : Bool) → is_zero (add f (neg x) (neg y)) ≡ b → is_zero (add f (neg x) (neg y)) ≡ is_zero (add f x y)
    by-there true t = by-here (is_zero (add f x y)) refl t
    by-there false t =
        sym (zero_neg (add f (neg x) (neg y))) ∙ ap is_zero (sym (add_neg_neg f (neg x) (neg y) (fails t)) ∙ back)

pub sub_zero_neg : (f : Format) (x y : Float) → is_zero (sub f (neg x) (neg y)) ≡ is_zero (sub f x y)
unfolding sub
sub_zero_neg f x y = add_zero_neg f x (neg y)
