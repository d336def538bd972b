-- `report_residuals::put_style` meets its contract.
use Rattle.lent.specs.laws.Writing.{same}
use Rattle.report_residuals.specs.rules.Text.{style_text}
use Rattle.report_residuals.proofs.put_style.Goals as goal

pub returns-in-People : goal.returns-in-People
unfolding style_text
returns-in-People c = same (rw c.in-People.is) c.put_people.ensures

pub returns-in-Figures : goal.returns-in-Figures
unfolding style_text
returns-in-Figures c = same (rw c.in-Figures.is) c.put_figures.ensures

pub returns-in-Sights : goal.returns-in-Sights
unfolding style_text
returns-in-Sights c = same (rw c.in-Sights.is) c.put_sights.ensures

pub returns-in-Left : goal.returns-in-Left
unfolding style_text
returns-in-Left c = same (rw c.in-Left.is) c.put_lefts.ensures
