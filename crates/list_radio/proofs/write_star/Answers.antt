-- `list_radio::write_star` meets its contract: its numbers, one after the other.
use mathlib.Core.Path.{◌≡◌, ap, ◌∙◌}
use mathlib.Core.List.{List, [], ◌∷◌, ◌++◌, append_assoc, append-nil}
use Prim.Native.Nat.{ℕ}
use Rattle.signed.specs.laws.Signed.{signed_word}
use Rattle.lent.specs.laws.Writing.{after, same}
use Rattle.list_groups.specs.rules.Groups.{groups}
use Rattle.list_groups.specs.rules.Several.{spell_all}
use Rattle.list_groups.specs.rules.Fold.{folded}
use Rattle.list_radio.specs.rules.Star.{star_groups}
use Rattle.list_radio.proofs.write_star.Goals as goal

joined : (a b c d e : List ℕ) → a ++ b ++ c ++ d ++ e ≡ a ++ (b ++ (c ++ (d ++ (e ++ []))))
joined a b c d e = simp (append_assoc, append-nil)

pub returns : goal.returns
unfolding star_groups
returns c =
    let r = c.args.star in
    let d = c.fold.ensures ∙ ap folded (signed_word r.dec c.struct_told-1.given.1.1.0.1) in
    let u = c.fold-2.ensures ∙ ap folded (signed_word r.asc_rate c.struct_told-2-1.given.1.1.1.0.1) in
    let v = c.fold-3.ensures ∙ ap folded (signed_word r.dec_rate c.struct_told-3-1.given.1.1.1.1.0.1) in
    same
    (joined (groups r.number) (groups r.asc) _ _ _ ∙ (λ i. spell_all groups (r.number ∷ r.asc ∷ d i ∷ u i ∷ v i ∷ [])))
    (after (after (after (after c.put_number-a.ensures c.put_number-b.ensures) c.put_number-c.ensures) c.put_number-d.ensures) c.put_number.ensures)
