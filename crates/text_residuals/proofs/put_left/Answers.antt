-- `text_residuals::put_left` meets its contract.
use mathlib.Core.List.{◌++◌, append_assoc}
use Rattle.lent.specs.laws.Writing.{after, same}
use Rattle.text_number.specs.rules.Bytes.{ascii}
use Rattle.text_residuals.specs.rules.Sheet.{line_star_text, why_left, left_text}
use Rattle.text_residuals.proofs.put_left.Goals as goal

pub returns : goal.returns
unfolding left_text
returns c =
    same (append_assoc (line_star_text c.args.line c.args.star) (ascii ":") (ascii " " ++ why_left c.args.n))
    (after c.put_line_star-a.ensures (after c.put_byte-b.ensures c.put_why_left.ensures))
