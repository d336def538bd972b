-- `text_number::put_integer` meets its contract.
use mathlib.Core.Path.{ap, ◌∙◌}
use mathlib.Core.Bool.{Bool}
use mir.Syntax.{w32}
use mir.Val.{to_z, of_z}
use mir.Facts.{to_z-of_z}
use Rattle.signed.specs.rules.Signed.{negative}
use Rattle.lent.specs.laws.Writing.{same}
use Rattle.text_number.specs.rules.Number.{signed_text, integer_text}
use Rattle.text_number.proofs.put_integer.Goals as goal

pub returns : goal.returns
unfolding integer_text
returns c =
    let z = to_z w32 (of_z w32 c.args.z) in
    same
    (ap (λ (minus : Bool). signed_text minus c.size.result) c.negative.ensures
    ∙ ap (signed_text (negative z)) c.size.ensures
    ∙ ap integer_text (to_z-of_z c.ranges.z))
    c.put_signed.ensures
