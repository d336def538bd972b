-- `list_widths::narrow_at` meets its contract, field by field.
use mathlib.Core.Path.{ap, ◌∙◌}
use lib.IntN.{pos}
use mir.Syntax.{w32}
use mir.Facts.{to_z-of_z}
use Rattle.signed.specs.rules.Signed.{signed_of}
use Rattle.list_widths.specs.rules.Narrow.{narrow_at}
use Rattle.list_widths.proofs.narrow_at.Goals as goal

pub returns : goal.returns
unfolding narrow_at
returns c =
    let n = c.word_at.ensures in
    let a = c.word_at-2.ensures in
    let d = to_z-of_z {w = w32} (record { sfits = c.signed_of.type_inv }) ∙ c.signed_of.ensures ∙ ap signed_of c.word_at-3.ensures in
    λ i. record { number = n i; asc = a i; dec = d i; asc_rate = pos 0; dec_rate = pos 0 }
