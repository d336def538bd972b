-- A list's answer by its style's refusals: none where the style refuses nothing, and its text whichever it is.
use Rattle.std.specs.Prelude.{ℕ, ◌≡◌, ⊤, List, Result, Ok, Err}
use Rattle.std.proofs.Common.{ap, sym}
use Rattle.std.proofs.lemmas.Bool.{eqb-false}
use Rattle.quantity.specs.declared.Refusal.{Refusal}
use Rattle.quantity.specs.rules.Answer.{number, checked, shown}
use Rattle.quantity.specs.laws.Accepted.{lower_none}
use Rattle.quantity.specs.laws.Answer.{number_not_none}
use Rattle.edition.specs.declared.Edition.{Edition}
use Rattle.transit.specs.rules.Observer.{plan_refusal}
use Rattle.list_tally.specs.declared.Tally.{Tally}
use Rattle.text_answers.specs.declared.Style.{Style}
use Rattle.text_answers.specs.declared.Style.TheVariants.{Lines, Table, Plan, PlanTable}
use Rattle.text_answers.specs.rules.Answers.{refusal_in, refused_in, list_text, answers_text}
use Rattle.std.specs.Result.{result_and}

-- what a style does not refuse the list's reduction did not refuse
pub not_refused : (style : Style) (n : ℕ) → refusal_in style n ≡ 0 → n ≡ 0
not_refused Lines n e = e
not_refused Table n e = e
not_refused (Plan o) n e = (lower_none n (plan_refusal o) e).0
not_refused (PlanTable o) n e = (lower_none n (plan_refusal o) e).0

module _ (style : Style) (edition : Edition) (s status asc dec : List ℕ) where
  -- the text of an answer that the style accepted, or refused
  abbrev pub told : Result Tally Refusal → List ℕ
  told (Ok tally) = list_text style edition s status asc dec tally
  told (Err e) = refused_in style (number e)

  pub told_lem : (check : Result ⊤ Refusal) (answer : Result Tally Refusal)
      → checked check ≡ refusal_in style (checked (result_and answer (Ok tt)))
      → told (result_and check answer) ≡ answers_text style edition s status asc dec (shown answer)
  unfolding answers_text
  told_lem (Ok tt) (Ok tally) e = rw (← e)
  told_lem (Err n) (Ok tally) e = rw (← e, number_not_none n)
  told_lem (Ok tt) (Err m) e = absurd (eqb-false (number m) 0 (number_not_none m) (not_refused style (number m) (sym e)))
  told_lem (Err n) (Err m) e = ap (refused_in style) e
