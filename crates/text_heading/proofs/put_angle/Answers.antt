-- `text_heading::put_angle` meets its contract.
use Rattle.lent.specs.laws.Writing.{same}
use Rattle.text_heading.specs.rules.Angle.{angle_text}
use Rattle.text_heading.proofs.put_angle.Goals as goal

pub returns : goal.returns
unfolding angle_text
returns c =
    same (simp (c.has_minus.ensures, c.tenths.ensures, c.tenths_of-n.ensures)) c.put_column.ensures
