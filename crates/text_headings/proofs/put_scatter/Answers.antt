-- `text_headings::put_scatter` meets its contract.
use Rattle.lent.specs.laws.Writing.{after}
use Rattle.text_headings.specs.rules.Mean.{scatter_text}
use Rattle.text_headings.proofs.put_scatter.Goals as goal

pub returns : goal.returns
unfolding scatter_text
returns c =
    after c.put-a.ensures (after (rw (c.nearest_whole-spread.ensures, c.spread_of.ensures) at c.put_seconds-b.ensures) (after c.put-c.ensures (after (rw (c.nearest_whole-error.ensures, c.mean_error.ensures) at c.put_seconds-d.ensures) c.put_byte.ensures)))
