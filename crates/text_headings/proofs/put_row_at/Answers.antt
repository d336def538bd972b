-- `text_headings::put_row_at` meets its contract.
use Rattle.text_headings.specs.rules.Sight.{row_at}
use Rattle.text_headings.proofs.put_row_at.Goals as goal

pub returns : goal.returns
unfolding row_at
returns c =
    rw (
      c.number_at-on_line.ensures,
      c.star_at-number.ensures,
      c.number_at-reference.ensures,
      c.residual_from-x.ensures,
      c.heading_at.ensures,
      c.heading_at-mark.ensures,
    )
    at c.put_heading.ensures
