-- `text_ceiling::put_line` meets its contract.
use Rattle.lent.specs.laws.Writing.{after, same}
use Rattle.text_ceiling.specs.rules.Text.{line_at}
use Rattle.text_ceiling.proofs.put_line.Goals as goal

pub returns : goal.returns
unfolding line_at
returns c =
    same (simp (c.nutation_ceiling.ensures, c.day_at.ensures, c.size_at.ensures, c.is_before.ensures))
    (after c.put_signed-a.ensures (after c.put_byte-b.ensures c.put_figures.ensures))
