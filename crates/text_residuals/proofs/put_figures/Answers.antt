-- `text_residuals::put_figures` meets its contract.
use Rattle.lent.specs.laws.Writing.{after}
use Rattle.text_residuals.specs.rules.Figures.{figures_text}
use Rattle.text_residuals.proofs.put_figures.Goals as goal

pub returns : goal.returns
unfolding figures_text
returns c =
    after c.put_row-a.ensures c.put_row.ensures
