-- `text_sights::place_at` meets its contract.
use Prim.Native.Nat.{ℕ}
use mathlib.Core.Path.{ap, ◌∙◌}
use lib.IntN.{nat_abs}
use lib.ListN.{get_or}
use mir.Facts.{to_z-of_z}
use Rattle.text_sights.proofs.place_at.Goals as goal

pub returns : goal.returns
returns c =
    let i = c.size-i.ensures ∙ ap nat_abs (to_z-of_z c.ranges.place) in
    (λ j.
    record {
      line = (c.number_at.ensures ∙ ap (λ (k : ℕ). get_or c.args.line.now k 0) i) j;
      star = (c.star_at-number.ensures ∙ ap (λ (k : ℕ). get_or c.args.star.now k 0) i) j;
    })
