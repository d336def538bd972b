-- The search for the first refused sight, one status after the other.
use Rattle.std.specs.Prelude.{ℕ, zero, suc, ◌+◌, ◌≤◌, ◌<◌, ◌≡◌, refl, Bool, cond, List, [], ◌∷◌, eqb, length, drop, get_or, ◌≢◌}
use Rattle.std.proofs.Common.{ap, ◌∙◌, le_of_suc-le-suc, add-one, arith, eq-eqb, ne_eqb}
use Rattle.report_mean.specs.rules.Refused.{first_refused}

one_step : (s : List ℕ) (i : ℕ) → i < length s → first_refused (drop i s) ≡ cond (eqb (get_or s i 0) 0) (suc (first_refused (drop (suc i) s))) 0
unfolding first_refused
one_step [] i h = absurd (omega arith)
one_step (n ∷ s) zero h = refl
one_step (n ∷ s) (suc i) h = one_step s i (le_of_suc-le-suc h)

module _ (s : List ℕ) (i : ℕ) (h : i < length s) where
  pub refused_here : get_or s i 0 ≢ 0 → first_refused (drop i s) ≡ 0
  refused_here e = one_step s i h ∙ ap (λ (t : Bool). cond t (suc (first_refused (drop (suc i) s))) 0) (ne_eqb (get_or s i 0) 0 e)

  pub refused_next : get_or s i 0 ≡ 0 → i + 1 + first_refused (drop (i + 1) s) ≡ i + first_refused (drop i s)
  refused_next e =
      let p = one_step s i h ∙ ap (λ (t : Bool). cond t (suc (first_refused (drop (suc i) s))) 0) (eq-eqb (get_or s i 0) 0 e) in
      ap (λ (k : ℕ). i + 1 + first_refused (drop k s)) (add-one i) ∙ omega (arith, p)

pub refused_none : (s : List ℕ) (i : ℕ) → length s ≤ i → first_refused (drop i s) ≡ 0
unfolding first_refused
refused_none [] zero h = refl
refused_none [] (suc i) h = refl
refused_none (n ∷ s) zero h = absurd (omega arith)
refused_none (n ∷ s) (suc i) h = refused_none s i (le_of_suc-le-suc h)
