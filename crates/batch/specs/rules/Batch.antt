-- The batch: every star of a list answered by the chain, and stored as star_store says.
use Rattle.std.specs.Prelude.{ℕ, List, Float, Result}
use Rattle.quantity.specs.rules.Answer.{Answer, Pair}
use Rattle.quantity.specs.declared.Refusal.{Refusal}
use Rattle.list_tally.specs.declared.Tally.{Tally}
use Rattle.edition.specs.declared.Edition.{Edition}
use Rattle.list.specs.declared.Star.{Star}
use Rattle.star_store.specs.rules.Stored.{answers_by, statuses_by, StarsStored}
use Rattle.batch.specs.rules.Star.{star_rule}

-- each star's answer from the first day to the second
abbrev pub stars_on : Edition → Float → Float → Star → Answer Pair
stars_on edition day1 day2 star = star_rule edition star day1 day2

-- every star's answer, in the list's order
abbrev pub answers_of : Edition → List ℕ → Float → Float → List (Answer Pair)
answers_of edition s day1 day2 = answers_by (stars_on edition day1 day2) s

abbrev pub statuses_of : Edition → List ℕ → Float → Float → List ℕ
statuses_of edition s day1 day2 = statuses_by (stars_on edition day1 day2) s

-- what a call leaves
abbrev pub Batch : Edition → List ℕ → Float → Float → List ℕ → List ℕ → List ℕ → Result Tally Refusal → List ℕ → List ℕ → List ℕ → Type 0
Batch edition s day1 day2 = StarsStored (stars_on edition day1 day2) s day1 day2
