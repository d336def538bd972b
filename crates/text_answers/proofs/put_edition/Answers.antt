-- `text_answers::put_edition` meets its contract.
use mathlib.Core.Path.{sym, ap}
use Rattle.lent.specs.laws.Writing.{nothing, same}
use Rattle.text_answers.specs.rules.Answers.{edition_text}
use Rattle.text_answers.proofs.put_edition.Goals as goal

pub returns-in-Crate : goal.returns-in-Crate
unfolding edition_text
returns-in-Crate c = same (ap edition_text (sym c.in-Crate.is)) (nothing _ _ _ c.within.ensures)

pub returns-in-Published : goal.returns-in-Published
unfolding edition_text
returns-in-Published c = same (ap edition_text (sym c.in-Published.is)) c.put.ensures
