-- `text_answers::put_answers` meets its contract.
use Rattle.std.proofs.Common.{ap, sym, ◌∙◌}
use Rattle.lent.specs.laws.Writing.{same}
use Rattle.text_answers.specs.rules.Answers.{refused_in}
use Rattle.text_answers.specs.laws.Answers.{told, told_lem}
use Rattle.text_answers.proofs.put_answers.Goals as goal

pub returns-in-Ok : goal.returns-in-Ok
returns-in-Ok c =
    let a = c.args in
    same (ap (told _ _ _ _ _ _) (sym c.in-Ok.is ∙ c.and-accepted.ensures) ∙ told_lem _ _ _ _ _ _ _ _ (rw c.and.ensures at c.refusal_in.ensures)) c.put_list.ensures

pub returns-in-Err : goal.returns-in-Err
returns-in-Err c =
    same (ap (refused_in _) c.number.ensures ∙ ap (told _ _ _ _ _ _) (sym c.in-Err.is ∙ c.and-accepted.ensures) ∙ told_lem _ _ _ _ _ _ _ _ (rw c.and.ensures at c.refusal_in.ensures)) c.put_refused.ensures
