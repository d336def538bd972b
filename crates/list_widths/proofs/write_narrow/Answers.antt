-- `list_widths::write_narrow` meets its contract: its words, one after the other.
use mathlib.Core.Path.{◌≡◌, ap, ◌∙◌}
use mathlib.Core.List.{List, [], ◌∷◌, ◌++◌, append_assoc, append-nil}
use Prim.Native.Nat.{ℕ}
use Rattle.signed.specs.rules.Signed.{word_of}
use Rattle.signed.specs.laws.Signed.{signed_word}
use Rattle.lent.specs.laws.Writing.{after, same}
use Rattle.list.specs.rules.Record.{word_bytes, words_bytes}
use Rattle.list_widths.specs.rules.Narrow.{narrow_bytes}
use Rattle.list_widths.proofs.write_narrow.Goals as goal

joined : (a b c : List ℕ) → a ++ b ++ c ≡ a ++ (b ++ (c ++ []))
joined a b c = simp (append_assoc, append-nil)

pub returns : goal.returns
unfolding narrow_bytes
returns c =
    let r = c.args.star in
    let d = c.word_of.ensures ∙ ap word_of (signed_word r.dec c.struct_told-1.given.1.1.0.1) in
    same
    (joined (word_bytes r.number) (word_bytes r.asc) _ ∙ ap (λ (n : ℕ). words_bytes (r.number ∷ r.asc ∷ n ∷ [])) d)
    (after (after c.put_word-a.ensures c.put_word-b.ensures) c.put_word.ensures)
