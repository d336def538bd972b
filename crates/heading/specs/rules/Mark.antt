-- A mark's heading: the star's, and what a circle reads at the mark less what it reads at the star, clockwise.
use Rattle.std.specs.Prelude.{ℕ}
use Rattle.double.specs.rules.Operations.{◌⊕◌, ◌⊖◌}
use Rattle.quantity.specs.declared.Deg.{Deg}
use Rattle.quantity.specs.rules.Angle.{deg}
use Rattle.quantity.specs.rules.Answer.{Answer, answered, unless}
use Rattle.quantity.specs.rules.Refusal.{lower}
use Rattle.helpers.specs.rules.Circle.{on_circle, circle_refusal}

unfoldable pub mark_in : Deg → Deg → Deg → Deg
mark_in heading star mark = on_circle (deg (heading.0 ⊕ (mark.0 ⊖ star.0)))

unfoldable pub mark_refusal : Deg → Deg → Deg → ℕ
mark_refusal heading star mark = lower (circle_refusal heading) (lower (circle_refusal star) (circle_refusal mark))

unfoldable pub mark_heading_rule : Deg → Deg → Deg → Answer Deg
mark_heading_rule heading star mark = unless (mark_refusal heading star mark) (answered (mark_in heading star mark))
