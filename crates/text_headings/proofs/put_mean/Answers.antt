-- `text_headings::put_mean` meets its contract.
use mir.Syntax.{w64}
use mir.Facts.{to_z-of_z}
use Rattle.lent.specs.laws.Writing.{after}
use Rattle.text_headings.specs.rules.Mean.{mean_text}
use Rattle.text_headings.proofs.put_mean.Goals as goal

pub returns : goal.returns
unfolding mean_text
returns c =
    let s = c.args.sheet in
    let count = to_z-of_z {w = w64} {z = s.count} (record { sfits = c.struct_told-1.given.0.1 }) in
    let aside = to_z-of_z {w = w64} {z = s.aside} (record { sfits = c.struct_told-2-1.given.1.1.1.1.1.0.1 }) in
    let sum = to_z-of_z {w = w64} {z = s.sum} (record { sfits = c.struct_told-3-1.given.1.0.1 }) in
    let squares = to_z-of_z {w = w64} {z = s.squares} (record { sfits = c.struct_told-4-1.given.1.1.0.1 }) in
    after c.put_mark-a.ensures
    (after (rw (c.size-aside.ensures, aside, c.size-count.ensures, count) at c.put_counts-b.ensures)
    (rw (c.size-squares.ensures, squares, c.size-sum.ensures, sum, c.size-count.ensures, count) at c.put_spread.ensures))
