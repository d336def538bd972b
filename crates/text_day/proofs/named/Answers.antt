-- `text_day::named` meets its contract.
use mathlib.Core.Path.{sym, ◌∙◌}
use mir.Facts.{to_z-of_z}
use Rattle.text_day.specs.laws.Steps.{is_j2000, is_dated}
use Rattle.text_day.proofs.named.Goals as goal

pub returns-then-is_word : goal.returns-then-is_word
returns-then-is_word c =
    is_j2000 c.args.text.now c.args.dut1 (sym c.is_word.ensures ∙ c.if-is_word.true)

pub returns : goal.returns
returns c =
    rw (to_z-of_z c.ranges.dut1) at c.read.ensures
    ∙ is_dated c.args.text.now c.args.dut1 (sym c.is_word.ensures ∙ c.if-is_word.false)
