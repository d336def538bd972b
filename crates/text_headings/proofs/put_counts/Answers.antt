-- `text_headings::put_counts` meets its contract.
use Rattle.lent.specs.laws.Writing.{after}
use Rattle.text_headings.specs.rules.Mean.{counts_text}
use Rattle.text_headings.proofs.put_counts.Goals as goal

pub returns : goal.returns
unfolding counts_text
returns c =
    after c.put-a.ensures (after c.put_decimal-b.ensures (after c.put-c.ensures (after c.put_decimal-d.ensures c.put_byte.ensures)))
