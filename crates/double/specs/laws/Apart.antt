-- Two values are apart where a number that is read off them differs.
use Rattle.std.specs.Prelude.{◌≡◌, ℕ, false, T, ◌==◌, nat_eq}
use Rattle.std.proofs.Common.{ap, sym, subst, ◌∙◌}
use Rattle.std.proofs.Math.Dec.{eqb_refl}

pub apart : {A : Type 0} (code : A → ℕ) {a b : A} → (code a == code b) ≡ false → ¬ (a ≡ b)
apart code {a} {b} p q = subst T (ap (λ (x : _). nat_eq (code x) (code b)) (sym q) ∙ p) (eqb_refl (code b))
