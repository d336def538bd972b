-- What the star of a sight came to: it is looked up in the list by its number, and reduced as the batch reduces it. A number that is not
-- found is refused as find refuses it.
use Rattle.std.specs.Prelude.{ℕ, List, Float, get_or}
use Rattle.quantity.specs.rules.Answer.{Answer, answered, refused, Pair, then}
use Rattle.edition.specs.declared.Edition.{Edition}
use Rattle.list.specs.rules.Find.{Entry, find_rule}
use Rattle.batch.specs.rules.Star.{star_rule}
use Rattle.report_residuals.specs.declared.Came.{Came}

unfoldable pub came_to : Edition → List ℕ → Float → Float → ℕ → Answer Pair
unfolding then
came_to edition s day1 day2 number = then (find_rule s number) (λ (e : Entry). star_rule edition e.star day1 day2)

-- the same of slices that have each star's status and the bits of its angles
abbrev pub came_at : List ℕ → List ℕ → List ℕ → Answer Entry → Came
came_at status asc dec (answered e) = record { status = get_or status e.index 0; asc = get_or asc e.index 0; dec = get_or dec e.index 0 }
came_at status asc dec (refused n) = record { status = n; asc = 0; dec = 0 }

unfoldable pub lent_came : List ℕ → List ℕ → List ℕ → List ℕ → ℕ → Came
lent_came s status asc dec number = came_at status asc dec (find_rule s number)
