-- How refused calls refuse alike in a mirror: what the arguments refuse comes first, then what the work meets.
use Rattle.std.specs.Prelude.{ℕ, ◌≡◌, Bool, true, false, cond, T, eqb, Float}
use Rattle.std.proofs.Common.{sym, ap, subst}
use Rattle.double.specs.laws.Sign.{neg_neg}
use Rattle.quantity.specs.declared.Rad.{Rad}
use Rattle.quantity.specs.rules.Angle.{rad, opposite}
use Rattle.quantity.specs.rules.Answer.{Answer, refused, unless}
use Rattle.elementary_arc.specs.rules.Arctangent.{both_zero, arctangent_in}
use Rattle.elementary_arc.specs.laws.Arctangent.{arctangent_refuses_fourteen, arctangent_of_zeros}

pub opposite_twice : (x : Rad) → opposite (opposite x) ≡ x
opposite_twice x = ap rad (neg_neg x.0)

pub refused_alike : {A : Type 0} (m n : ℕ) (a b : Answer A) → ((k : ℕ) → a ≡ refused k → b ≡ refused k) → unless m a ≡ refused n
    → unless m b ≡ refused n
refused_alike m n a b work e = by_case (eqb m 0) e
  where
    by_case : (t : Bool) → cond t a (refused m) ≡ refused n → cond t b (refused m) ≡ refused n
    by_case true e = work n e
    by_case false e = e

-- of arctangents whose arguments are both zero in one as in the other
pub arctangents_refused_alike : (y x y' x' : Float) → both_zero y' x' ≡ both_zero y x → (n : ℕ) → arctangent_in y x ≡ refused n
    → arctangent_in y' x' ≡ refused n
arctangents_refused_alike y x y' x' same n e =
    let r = arctangent_refuses_fourteen y x n e in
    rw r.0 (arctangent_of_zeros y' x' (subst T (sym same) r.1))
