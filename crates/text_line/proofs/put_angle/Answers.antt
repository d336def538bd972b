-- `text_line::put_angle` meets its contract.
use Rattle.lent.specs.laws.Writing.{same}
use Rattle.text_line.specs.rules.Angle.{angle_text}
use Rattle.text_line.proofs.put_angle.Goals as goal

pub returns : goal.returns
unfolding angle_text
returns c =
    same (simp (c.has_minus.ensures, c.nearest_whole-n.ensures, c.size.ensures, c.milliarcseconds-y.ensures, c.to_degrees.ensures)) c.put_signed.ensures
