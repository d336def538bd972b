-- `heading_mean::mean_from` meets its contract.
use mathlib.Core.Path.{sym, ap, subst}
use Rattle.quantity.specs.rules.Answer.{answered}
use Rattle.list.specs.rules.Stars.{most_stars}
use Rattle.residual_sheet.specs.rules.Running.{AtMost}
use Rattle.heading_mean.specs.laws.Grown.{all_at_most, grown_is_mean}
use Rattle.heading_mean.proofs.mean_from.Goals as goal

pub sheet_from-s-requires : goal.sheet_from-s-requires
sheet_from-s-requires c =
    subst (AtMost most_stars) (sym c.running_from-r.ensures)
    (all_at_most c.args.reference c.args.headings.now c.requires)

pub returns : goal.returns
returns c =
    ap answered
    (grown_is_mean c.args.reference c.args.headings.now _ _ _ c.running_from-r.ensures c.mean_of-m.ensures c.sheet_from-s.ensures)

pub running_from-r-requires : goal.running_from-r-requires
running_from-r-requires c = c.requires
