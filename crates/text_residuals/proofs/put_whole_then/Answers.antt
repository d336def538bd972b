-- `text_residuals::put_whole_then` meets its contract.
use mir.Facts.{to_z-of_z}
use Rattle.lent.specs.laws.Writing.{same}
use Rattle.text_number.specs.rules.Number.{integer_text}
use Rattle.text_residuals.specs.rules.Figures.{whole_then}
use Rattle.text_residuals.proofs.put_whole_then.Goals as goal

pub returns : goal.returns
unfolding whole_then integer_text
returns c =
    same (rw (c.size.ensures, c.negative.ensures, to_z-of_z c.ranges.z)) c.put_signed_then.ensures
