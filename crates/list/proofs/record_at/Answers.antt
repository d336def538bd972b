-- `list::record_at` meets its contract, field by field.
use mathlib.Core.Path.{ap, ◌∙◌}
use mir.Syntax.{w32}
use mir.Facts.{to_z-of_z}
use Rattle.signed.specs.rules.Signed.{signed_of}
use Rattle.list.specs.rules.Record.{star_at}
use Rattle.list.proofs.record_at.Goals as goal

pub returns : goal.returns
unfolding star_at
returns c =
    let n = c.word_at.ensures in
    let a = c.word_at-2.ensures in
    let d = to_z-of_z {w = w32} (record { sfits = c.signed_of.type_inv }) ∙ c.signed_of.ensures ∙ ap signed_of c.word_at-3.ensures in
    let u = to_z-of_z {w = w32} (record { sfits = c.signed_of-2.type_inv }) ∙ c.signed_of-2.ensures ∙ ap signed_of c.word_at-4.ensures in
    let v = to_z-of_z {w = w32} (record { sfits = c.signed_of-3.type_inv }) ∙ c.signed_of-3.ensures ∙ ap signed_of c.word_at-5.ensures in
    λ i. record { number = n i; asc = a i; dec = d i; asc_rate = u i; dec_rate = v i }
