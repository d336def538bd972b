-- `text_sheet::put_rates` meets its contract, piece by piece.
use mathlib.Core.Path.{◌≡◌, ◌∙◌}
use mathlib.Core.List.{List, [], ◌∷◌, ◌++◌, append_assoc}
use Prim.Native.Nat.{ℕ}
use Rattle.signed.specs.laws.Signed.{signed_word}
use Rattle.lent.specs.laws.Writing.{after, same, nothing}
use Rattle.text_number.specs.rules.Bytes.{space}
use Rattle.text_number.specs.rules.Number.{integer_text}
use Rattle.text_sheet.specs.rules.Sheet.{rates_text}
use Rattle.text_sheet.proofs.put_rates.Goals as goal

abbrev gap : List ℕ
gap = space ∷ []

-- nested to the right
joined : (a b : List ℕ) → gap ++ a ++ gap ++ b ≡ space ∷ (a ++ (space ∷ b))
joined a b = simp append_assoc

pub returns-then-rates : goal.returns-then-rates
unfolding rates_text
returns-then-rates c =
    let r = c.args.star in
    let u = signed_word r.asc_rate c.struct_told-1.given.1.1.1.0.1 in
    let v = signed_word r.dec_rate c.struct_told-then-rates-1.given.1.1.1.1.0.1 in
    same
    ((λ i. gap ++ integer_text (u i) ++ gap ++ integer_text (v i)) ∙ joined (integer_text r.asc_rate) (integer_text r.dec_rate) ∙ simp c.if-rates.true)
    (after (after (after c.put_byte-a.ensures c.put_integer-b.ensures) c.put_byte-c.ensures) c.put_integer.ensures)

pub returns : goal.returns
unfolding rates_text
returns c = same (simp c.if-rates.false) (nothing _ _ _ c.within.ensures)
