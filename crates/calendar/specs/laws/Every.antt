-- What a test shows of each number below a limit.
use Rattle.std.specs.Prelude.{◌≡◌, ℕ, zero, suc, ◌<◌, Bool, true, false, T, ◌==◌, refl}
use Rattle.std.proofs.Common.{subst, sym, arith, eqb-true}
use Rattle.std.specs.Float.Ieee.Fits.{and_l, and_r}
use Rattle.std.proofs.lemmas.Bool.{eqb-false}
use Rattle.calendar.specs.notions.Closed.{every}

pub every_at : (p : ℕ → Bool) (n i : ℕ) → T (every p n) → i < n → T (p i)
every_at p zero i t h = absurd (omega arith)
every_at p (suc n) i t h = by_case (i == n) refl (λ k. every_at p n i (and_r (p n) (every p n) t) k)
  where
    by_case : (b : Bool) → (i == n) ≡ b → (i < n → T (p i)) → T (p i)
    by_case true e below = subst (λ (k : ℕ). T (p k)) (sym (eqb-true i n e)) (and_l (p n) (every p n) t)
    by_case false e below =
        let apart = eqb-false i n e in
        below (omega arith)
