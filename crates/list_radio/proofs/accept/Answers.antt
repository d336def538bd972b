-- `list_radio::accept` meets its contract.
use mathlib.Core.Path.{◌∙◌}
use Rattle.std.proofs.lemmas.Result.{err_from_is_err_and}
use Rattle.list_radio.specs.laws.Reader.{accept_refused, accept_answered}
use Rattle.list_radio.proofs.Reading.{stars_as}
use Rattle.list_radio.proofs.accept.Goals as goal

pub returns-in_err-n : goal.returns-in_err-n
returns-in_err-n c =
    let p = err_from_is_err_and c.from_residual.result c.from_residual.ensures.1 in
    rw (p.1, p.2) (accept_refused _ _ c.in_err-n.ensures)

pub returns : goal.returns
returns c =
    c.check_stars.ensures
    ∙ stars_as _ _ _ _ c.is_moving.ensures
    ∙ accept_answered _ _ _ c.in_ok-n.ensures
