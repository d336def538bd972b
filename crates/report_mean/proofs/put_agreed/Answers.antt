-- `report_mean::put_agreed` meets its contract.
use mathlib.Core.Path.{refl}
use Rattle.lent.specs.laws.Writing.{same}
use Rattle.report_mean.specs.rules.Text.{agreed_text}
use Rattle.report_mean.proofs.put_agreed.Goals as goal

pub returns-in-Ok : goal.returns-in-Ok
unfolding agreed_text
returns-in-Ok c = same (rw (← c.mean_heading.ensures, c.in-Ok.is) refl) c.put_meant.ensures

pub returns-in-Err : goal.returns-in-Err
unfolding agreed_text
returns-in-Err c = same (rw (← c.mean_heading.ensures, c.in-Err.is, c.number.ensures) refl) c.put_no_mean.ensures
