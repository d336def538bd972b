-- What the stars of a list are answered under a night after so many years.
use Rattle.std.specs.Prelude.{Float}
use Rattle.quantity.specs.rules.Answer.{Answer, Pair}
use Rattle.quantity.specs.declared.Refusal.{Refusal}
use Rattle.chain.specs.declared.Night.{Night}
use Rattle.list.specs.declared.Star.{Star}
use Rattle.batch.specs.rules.Star.{star_under}

abbrev pub under : Night Refusal → Float → Star → Answer Pair
under night years star = star_under star night years
