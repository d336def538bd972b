-- `text_sights::put_people` meets its contract.
use mir.Syntax.{w64}
use mir.Facts.{to_z-of_z}
use Rattle.lent.specs.laws.Writing.{after}
use Rattle.text_sights.specs.rules.Sights.{people_text}
use Rattle.text_sights.proofs.put_people.Goals as goal

pub returns : goal.returns
unfolding people_text
returns c =
    let args = c.args in
    let asc-place = to_z-of_z {w = w64} {z = args.asc.place} (record { sfits = c.struct_told-1.given.1.1.1.1.0.1 }) in
    let dec-place = to_z-of_z {w = w64} {z = args.dec.place} (record { sfits = c.struct_told-2-1.given.1.1.1.1.0.1 }) in
    after (rw (c.place_at-d.ensures, dec-place, c.place_at-a.ensures, asc-place) at c.put_sheet-k.ensures) c.put_lefts.ensures
