-- How what is known of an answer goes through the work, and what a rule that refuses first then answers.
use Rattle.std.specs.Prelude.{ℕ, ◌≡◌, refl, Bool, true, false, not, cond, T, Float}
use Rattle.std.proofs.Common.{sym, subst}
use Rattle.quantity.specs.declared.Rad.{Rad}
use Rattle.quantity.specs.rules.Answer.{Answer, answered, refused, Pair, pair, first, second, unless, with, then, both}
use Rattle.quantity.specs.laws.Steps.{refused_not_answered, same_value, same_number}
use Rattle.quantity.specs.laws.Accepted.{answered_unless}
use Rattle.domain_accepted.specs.notions.Outcome.{Outcome}
use Rattle.domain_accepted.specs.notions.Within.{Angle}

-- ---- a value, and a refusal

module _ {A : Type 0} {P : A → Type 0} {Q : ℕ → Type 0} where
  pub outcome_answered : (x : A) → P x → Outcome P Q (answered x)
  outcome_answered x p =
      record { answers = λ v e. subst P (same_value e) p; refuses = λ n e. absurd (refused_not_answered (sym e)) }

  pub outcome_refused : (n : ℕ) → Q n → Outcome P Q (refused n)
  outcome_refused n q =
      record { answers = λ v e. absurd (refused_not_answered e); refuses = λ m e. subst Q (same_number e) q }

  pub outcome_cond : (b : Bool) (a a' : Answer A) → Outcome P Q a → (T (not b) → Outcome P Q a') → Outcome P Q (cond b a a')
  outcome_cond true a a' o h = o
  outcome_cond false a a' o h = h tt

pub outcome_wider : {A : Type 0} {P R : A → Type 0} {Q : ℕ → Type 0} → ((x : A) → P x → R x) → {a : Answer A}
    → Outcome P Q a → Outcome R Q a
outcome_wider h o = record { answers = λ v e. h v (o.answers v e); refuses = o.refuses }

-- with the equation itself
pub outcome_with_answer : {A : Type 0} {P : A → Type 0} {Q : ℕ → Type 0} {a : Answer A} → Outcome P Q a
    → Outcome (λ (v : A). P v × (a ≡ answered v)) Q a
outcome_with_answer o = record { answers = λ v e. (o.answers v e, e); refuses = o.refuses }

-- ---- through the work

module _ {A B : Type 0} {P : A → Type 0} {R : B → Type 0} {Q : ℕ → Type 0} where
  pub outcome_with : (f : A → B) → ((x : A) → P x → R (f x)) → (a : Answer A) → Outcome P Q a → Outcome R Q (with f a)
  outcome_with f h (answered x) o = outcome_answered (f x) (h x (o.answers x refl))
  outcome_with f h (refused n) o = outcome_refused n (o.refuses n refl)

  pub outcome_then : (f : A → Answer B) → ((x : A) → P x → Outcome R Q (f x)) → (a : Answer A) → Outcome P Q a → Outcome R Q (then a f)
  unfolding then
  outcome_then f h (answered x) o = h x (o.answers x refl)
  outcome_then f h (refused n) o = outcome_refused n (o.refuses n refl)

pub outcome_both : (P R : Float → Type 0) {Q : ℕ → Type 0} (a b : Answer Rad) → Outcome (Angle P) Q a
    → Outcome (Angle R) Q b → Outcome (λ (p : Pair). P (first p) × R (second p)) Q (both a b)
unfolding both then
outcome_both P R (answered x) (answered y) o o' = outcome_answered (pair x.0 y.0) (o.answers x refl, o'.answers y refl)
outcome_both P R (answered x) (refused n) o o' = outcome_refused n (o'.refuses n refl)
outcome_both P R (refused n) b o o' = outcome_refused n (o.refuses n refl)

-- ---- the whole of a rule: n is the refusal that is tested first, a the work

module _ {A : Type 0} {P : A → Type 0} {Q : ℕ → Type 0} (n : ℕ) (a : Answer A) (work : n ≡ 0 → Outcome P Q a) where
  pub rule_answers : (v : A) → unless n a ≡ answered v → P v
  rule_answers v e =
      let u = answered_unless n a v e in
      (work u.0).answers v u.1

  -- what is refused later
  pub rule_refuses : n ≡ 0 → (m : ℕ) → unless n a ≡ refused m → Q m
  rule_refuses none m e = (work none).refuses m (subst (λ (k : ℕ). unless k a ≡ refused m) none e)
