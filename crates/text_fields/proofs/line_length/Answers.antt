-- `text_fields::line_length` meets its contract.
use native.Mathlib.Omega.{arith}
use Rattle.text_fields.specs.laws.Lines.{length_with_end, length_without_end}
use Rattle.text_fields.proofs.line_length.Goals as goal

pub returns-then-k-text : goal.returns-then-k-text
returns-then-k-text c =
    let text = c.args.text.now in
    omega (arith, c.length_before-k.ensures, length_with_end text (omega (arith, c.length_before-k.ensures, c.if-k-text.true)))

pub returns-else-k-text : goal.returns-else-k-text
returns-else-k-text c =
    let text = c.args.text.now in
    omega (arith, c.length_before-k.ensures, length_without_end text (omega (arith, c.length_before-k.ensures, c.if-k-text.false)))
