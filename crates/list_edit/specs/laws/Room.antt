-- Empty places behind a list: zeros that are written there, and where the first stands.
use Rattle.std.specs.Prelude.{◌≡◌, Bool, true, false, cond, List, ◌++◌, ℕ, ◌+◌, ◌*◌, ◌-◌, ◌≤◌, length, take, replicate, ⊤, Result}
use Rattle.std.proofs.Common.{ap, ◌∙◌, subst, append-nil, arith, drop_of_length-le}
use Rattle.std.proofs.lemmas.List.{length-replicate}
use Rattle.lent.specs.rules.Writing.{Wrote}
use Rattle.lent.specs.laws.Writing as writing
use Rattle.list.specs.rules.Record.{width}
use Rattle.list.specs.rules.Stars.{count_of, stars}
use Rattle.list.specs.rules.Find.{index_of}
use Rattle.list.specs.laws.Stars.{length_stars}
use Rattle.list.specs.declared.Star.{Star}
use Rattle.list_edit.specs.rules.Edit.{add_rule, with_room, Edit}
use Rattle.list_edit.specs.laws.First.{index_within}
use Rattle.quantity.specs.declared.Refusal.{Refusal}

-- zeros from byte n on leave the list of the n bytes before it, with room
room_laid : (s cur : List ℕ) (n end : ℕ) → n ≤ length s → Wrote s n (replicate (length s - n) 0) cur end → cur ≡ with_room s n
room_laid s cur n end h w =
    let zeros : List ℕ = replicate (length s - n) 0 in
    let size = length-replicate {A = ℕ} (length s - n) 0 in
    w.text
    ∙ writing.whole s n zeros (omega arith)
    ∙ ap (λ (l : List ℕ). take n s ++ zeros ++ l) (drop_of_length-le s {i = n + length zeros} (omega arith))
    ∙ append-nil (take n s ++ zeros)

-- a star added there is one added to the list with room
pub added_in_room : {s cur new : List ℕ} {n end : ℕ} {e : Result ⊤ Refusal} (r : Star) → n ≤ length s
    → Wrote s n (replicate (length s - n) 0) cur end → Edit (add_rule cur r) cur new e
    → Edit (add_rule (with_room s n) r) (with_room s n) new e
added_in_room {s} {cur} {new} {n} {end} {e} r h w p =
    subst (λ (l : List ℕ). Edit (add_rule l r) l new e) (room_laid s cur n end h w) p

-- the first empty place of a list begins within it, so that it can be cut there
pub empty_inside : (s : List ℕ) → index_of 0 (stars s) * width ≤ length s
unfolding count_of
empty_inside s = omega (arith, index_within 0 (stars s), length_stars s)

pub cut_inside : (cut : Bool) (s : List ℕ) → cond cut (index_of 0 (stars s) * width) (length s) ≤ length s
cut_inside true s = empty_inside s
cut_inside false s = omega arith
