-- `text_sheet::put_place` meets its contract, piece by piece.
use mathlib.Core.Path.{◌≡◌, ap, ◌∙◌}
use mathlib.Core.List.{List, [], ◌∷◌, ◌++◌, append_assoc}
use Prim.Native.Nat.{ℕ}
use lib.IntN.{ℤ}
use Rattle.signed.specs.laws.Signed.{signed_word}
use Rattle.lent.specs.laws.Writing.{after, same}
use Rattle.text_number.specs.rules.Bytes.{space}
use Rattle.text_number.specs.rules.Number.{decimal_text, integer_text}
use Rattle.text_sheet.specs.rules.Sheet.{place_text}
use Rattle.text_sheet.proofs.put_place.Goals as goal

abbrev gap : List ℕ
gap = space ∷ []

-- nested to the right
joined : (a b : List ℕ) → gap ++ a ++ gap ++ b ≡ space ∷ (a ++ (space ∷ b))
joined a b = simp append_assoc

pub returns : goal.returns
unfolding place_text
returns c =
    let r = c.args.star in
    same
    (joined (decimal_text r.asc) _ ∙ ap (λ (z : ℤ). space ∷ (decimal_text r.asc ++ (space ∷ integer_text z))) (signed_word r.dec c.struct_told-1.given.1.1.0.1))
    (after (after (after c.put_byte-a.ensures c.put_decimal-b.ensures) c.put_byte-c.ensures) c.put_integer.ensures)
