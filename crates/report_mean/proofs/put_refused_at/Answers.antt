-- `report_mean::put_refused_at` meets its contract.
use Rattle.report_mean.proofs.put_refused_at.Goals as goal

pub returns : goal.returns
returns c =
    rw (
      c.number_at-kind.ensures,
      c.status_at-refusal.ensures,
      c.star_at-number.ensures,
      c.number_at-on_line.ensures,
    )
    at c.put_refused.ensures
