-- `text_residuals::put_where` meets its contract.
use Prim.Native.Nat.{ℕ}
use mathlib.Core.Path.{ap}
use mathlib.Core.List.{List, ◌++◌, append_assoc}
use Rattle.lent.specs.laws.Writing.{after, same}
use Rattle.text_number.specs.rules.Bytes.{ascii}
use Rattle.text_residuals.specs.rules.Sheet.{line_star_text, where_text}
use Rattle.text_residuals.proofs.put_where.Goals as goal

pub returns : goal.returns
unfolding where_text
returns c =
    same (ap (λ (t : List ℕ). ascii "(" ++ t) (append_assoc (line_star_text c.args.line c.args.star) (ascii ")") (ascii "\n")))
    (after c.put_byte-a.ensures (after c.put_line_star-b.ensures c.put_byte.ensures))
