-- What a law of a rule says of answers: of the functions as of the rules, and of refused calls.
use Rattle.std.specs.Prelude.{ℕ, ◌≡◌, Float, Result, Ok}
use Rattle.std.proofs.Common.{ap, sym, ◌∙◌}
use Rattle.quantity.specs.declared.Refusal.{Refusal}
use Rattle.quantity.specs.declared.Deg.{Deg}
use Rattle.quantity.specs.declared.Rad.{Rad}
use Rattle.quantity.specs.declared.EqPoint.{EqPoint}
use Rattle.quantity.specs.declared.EclPoint.{EclPoint}
use Rattle.quantity.specs.rules.Answer.{Answer, answered, refused, Pair, Triple, shown, shown_two, shown_three, with}
use Rattle.quantity.specs.laws.Answer.{carried, unique, shown_loses_nothing, shown_two_loses_nothing, shown_three_loses_nothing}
use Rattle.quantity.specs.laws.Answer.{shown_loses_nothing}
use Rattle.atmos.specs.declared.Arcmin.{Arcmin}
use Rattle.transit.specs.rules.Clock.{shown_plan}
use Rattle.transit.specs.laws.Plan.{shown_plan_loses_nothing}

-- ---- a contract holds of one answer only, whatever the function and its rule's answer a

pub one_answer : {A : Type 0} {a : Answer A} (r s : Result A Refusal) → shown r ≡ a → shown s ≡ a → r ≡ s
one_answer = unique shown shown_loses_nothing

pub one_pair : {a : Answer Pair} (r s : Result (Float × Float) Refusal) → shown_two r ≡ a → shown_two s ≡ a → r ≡ s
one_pair = unique shown_two shown_two_loses_nothing

pub one_triple : {a : Answer Triple} (r s : Result (Float × Float × Float) Refusal) → shown_three r ≡ a → shown_three s ≡ a → r ≡ s
one_triple = unique shown_three shown_three_loses_nothing

-- a plan's refusal is any status, as it was given
pub one_plan : {a : Answer Triple} (r s : Result (Float × Float × Float) ℕ) → shown_plan r ≡ a → shown_plan s ≡ a → r ≡ s
one_plan = unique shown_plan shown_plan_loses_nothing

-- ---- an answer in code is its rule's

pub answered_by : {a : Answer Rad} {r : Result Rad Refusal} {v : Rad} → shown r ≡ a → r ≡ Ok v → a ≡ answered v
answered_by p e = sym p ∙ ap shown e

-- ---- two calls whose rules answer a and b, where b is a with its angle changed by f

module _ (f : Rad → Rad) {a b : Answer Rad} (law : b ≡ with f a) where
  -- the function's answer changes as the rule's does
  pub mirrored : (r s : Result Rad Refusal) → shown r ≡ a → shown s ≡ b → shown s ≡ with f (shown r)
  mirrored r s p q = carried shown (with f) r s p q law

  -- refused calls refuse alike
  pub refused_there : (n : ℕ) → a ≡ refused n → b ≡ refused n
  refused_there n e = law ∙ ap (with f) e

  pub refused_here : (n : ℕ) → b ≡ refused n → a ≡ refused n
  refused_here n e = by_case a (sym law ∙ e)
    where
      by_case : (a : Answer Rad) → with f a ≡ refused n → a ≡ refused n
      by_case (answered x) e = cc
      by_case (refused m) e = e

-- two calls whose rules answer alike answer alike
pub unchanged : {a b : Answer Rad} → b ≡ a → (r s : Result Rad Refusal) → shown r ≡ a → shown s ≡ b → s ≡ r
unchanged law r s p q = one_answer s r (q ∙ law) p
