-- `list::write_star` meets its contract: its words, one after the other.
use mathlib.Core.Path.{◌≡◌, ap, ◌∙◌}
use mathlib.Core.List.{List, [], ◌∷◌, ◌++◌, append_assoc, append-nil}
use Prim.Native.Nat.{ℕ}
use Rattle.signed.specs.rules.Signed.{word_of}
use Rattle.signed.specs.laws.Signed.{signed_word}
use Rattle.lent.specs.laws.Writing.{after, same}
use Rattle.list.specs.rules.Record.{word_bytes, words_bytes, star_bytes}
use Rattle.list.proofs.write_star.Goals as goal

joined : (a b c d e : List ℕ) → a ++ b ++ c ++ d ++ e ≡ a ++ (b ++ (c ++ (d ++ (e ++ []))))
joined a b c d e = simp (append_assoc, append-nil)

pub returns : goal.returns
unfolding star_bytes
returns c =
    let r = c.args.star in
    let d = c.word_of.ensures ∙ ap word_of (signed_word r.dec c.struct_told-1.given.1.1.0.1) in
    let u = c.word_of-2.ensures ∙ ap word_of (signed_word r.asc_rate c.struct_told-2-1.given.1.1.1.0.1) in
    let v = c.word_of-3.ensures ∙ ap word_of (signed_word r.dec_rate c.struct_told-3-1.given.1.1.1.1.0.1) in
    same
    (joined (word_bytes r.number) (word_bytes r.asc) _ _ _ ∙ (λ i. words_bytes (r.number ∷ r.asc ∷ d i ∷ u i ∷ v i ∷ [])))
    (after (after (after (after c.put_word-a.ensures c.put_word-b.ensures) c.put_word-c.ensures) c.put_word-d.ensures) c.put_word.ensures)
