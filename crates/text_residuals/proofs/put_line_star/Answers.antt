-- `text_residuals::put_line_star` meets its contract.
use Prim.Native.Nat.{ℕ}
use mathlib.Core.Path.{◌≡◌, sym, ap, ◌∙◌}
use mathlib.Core.List.{List, [], ◌∷◌, ◌++◌, append_assoc}
use Rattle.lent.specs.laws.Writing.{after, same}
use Rattle.text_number.specs.rules.Bytes.{ascii}
use Rattle.text_number.specs.rules.Number.{decimal_text}
use Rattle.text_residuals.specs.rules.Sheet.{line_star_text}
use Rattle.text_residuals.proofs.put_line_star.Goals as goal

-- the same text, by its two labels
parted : (l s : List ℕ) (end : ℕ) → (l ++ ascii ",") ++ (ascii " star " ++ (s ++ (end ∷ []))) ≡ (l ++ (ascii ", star " ++ s)) ++ (end ∷ [])
parted l s end = append_assoc l (ascii ",") (ascii " star " ++ (s ++ (end ∷ []))) ∙ sym (append_assoc l (ascii ", star " ++ s) (end ∷ []))

pub returns : goal.returns
unfolding line_star_text
returns c =
    same (ap (λ (t : List ℕ). ascii "line " ++ t) (parted (decimal_text c.args.line) (decimal_text c.args.star) c.args.end))
    (after c.put_labelled-a.ensures c.put_labelled.ensures)
