-- `text_heading::put_coordinate` meets its contract.
use Rattle.lent.specs.laws.Writing.{same}
use Rattle.text_heading.specs.rules.Place.{coordinate_text}
use Rattle.text_heading.proofs.put_coordinate.Goals as goal

pub returns : goal.returns
unfolding coordinate_text
returns c =
    same (simp (c.side.ensures, c.has_minus-minus.ensures, c.nearest_whole-n.ensures, c.size.ensures, c.hundredths-y.ensures))
    c.put_parts.ensures
