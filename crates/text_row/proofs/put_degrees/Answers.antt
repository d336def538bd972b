-- `text_row::put_degrees` meets its contract.
use Rattle.lent.specs.laws.Writing.{same}
use Rattle.text_row.specs.rules.Place.{degrees_text}
use Rattle.text_row.proofs.put_degrees.Goals as goal

pub returns : goal.returns
unfolding degrees_text
returns c =
    same (simp (c.has_minus.ensures, c.nearest_whole-n.ensures, c.size.ensures, c.hundredths-y.ensures, c.to_degrees.ensures))
    c.put_arc.ensures
