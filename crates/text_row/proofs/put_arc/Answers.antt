-- `text_row::put_arc` meets its contract.
use Prim.Native.Nat.{ℕ, ◌/◌, ◌%◌}
use mathlib.Core.Path.{ap}
use mathlib.Core.List.{◌∷◌, ◌++◌}
use Rattle.lent.specs.laws.Writing.{after, same}
use Rattle.text_number.specs.rules.Bytes.{point}
use Rattle.text_time.specs.rules.Time.{two_digits, clock_text}
use Rattle.text_row.specs.rules.Place.{arc_text}
use Rattle.text_row.proofs.put_arc.Goals as goal

pub returns : goal.returns
unfolding arc_text
returns c =
    let n = c.args.n in
    same (ap (λ (sign : ℕ). sign ∷ (clock_text (n / 100) ++ (point ∷ two_digits (n % 100)))) c.sign.ensures)
    (after c.put_byte-a.ensures (after c.put_clock-b.ensures (after c.put_byte-c.ensures c.put_two.ensures)))
