-- What stands after a thing that was read is a tail of the bytes, so that its offset says all of it.
use Rattle.std.specs.Prelude.{◌≡◌, refl, Bool, true, false, cond, List, [], ◌∷◌, ◌++◌, ℕ, zero, suc, ◌-◌, ◌≤◌, ltb, take}
use Rattle.std.proofs.Math.Path.{sym, ap}
use Rattle.std.proofs.Common.{◌∙◌, append_assoc, arith, length-append, take-append-drop, drop_at}
use Rattle.std.proofs.Math.ListN.{length, drop, length-drop}
use Rattle.quantity.specs.rules.Answer.{Answer, answered, refused, with}
use Rattle.list_groups.specs.rules.Reading.{Got, last_group, above, number_within, read_number, AtOffset, with_offset, read_at}
use Rattle.list_groups.specs.notions.Tail.{Tail, LeavesTail, Found}
use Rattle.quantity.specs.laws.Steps.{refused_not_answered, changed, with_refused}

-- ---- tails

pub all : (s : List ℕ) → Tail s s
all s = record { front = []; is = refl }

pub of_tail : {a b c : List ℕ} → Tail a b → Tail b c → Tail a c
of_tail {a} t u = record { front = u.front ++ t.front; is = u.is ∙ ap (λ (l : List ℕ). u.front ++ l) t.is ∙ sym (append_assoc u.front t.front a) }

pub dropped : (at : ℕ) (s : List ℕ) → Tail (drop at s) s
dropped at s = record { front = take at s; is = sym (take-append-drop at s) }

pub shorter : {rest s : List ℕ} → Tail rest s → length rest ≤ length s
shorter {rest} t = omega (arith, ap length t.is ∙ length-append t.front rest)

rest_is : {rest s : List ℕ} → Tail rest s → drop (length s - length rest) s ≡ rest
rest_is {rest} {s} t =
    ap (λ (l : List ℕ). drop (length s - length rest) l) t.is
    ∙ drop_at t.front rest (length s - length rest) (omega (arith, ap length t.is ∙ length-append t.front rest))

-- what an answer with an offset says of the reader, and the other way round
module _ {A : Type 0} (read : List ℕ → Answer (Got A)) (s : List ℕ) (at : ℕ) where
  pub found : LeavesTail read → (v : A) (next : ℕ) → answered (record { value = v; offset = next }) ≡ read_at read s at
      → Found read s at v next
  unfolding read_at
  found tails v next e =
      let p = changed (read (drop at s)) (with_offset s) (record { value = v; offset = next }) (sym e) in
      let g = p.value in
      let t = of_tail (tails (drop at s) g p.first) (dropped at s) in
      let same : v ≡ g.value = ap (λ (x : AtOffset A). x.value) p.is in
      let where-it-ends : next ≡ length s - length g.rest = ap (λ (x : AtOffset A). x.offset) p.is in
      let left : g.rest ≡ drop next s = sym (ap (λ (n : ℕ). drop n s) where-it-ends ∙ rest_is t) in
      record {
        read_so = p.first ∙ (λ i. answered (record { value = sym same i; rest = left i }));
        inside = omega arith;
      }

  pub shows : (v : A) (next : ℕ) → next ≤ length s
      → read (drop at s) ≡ answered (record { value = v; rest = drop next s })
      → answered (record { value = v; offset = next }) ≡ read_at read s at
  unfolding read_at
  shows v next h e =
      rw e (ap (λ (n : ℕ). answered (record { value = v; offset = n })) (let q : next ≡ length s - length (drop next s) = omega (arith, length-drop next s) in q))

  pub not_found : (k : ℕ) → refused k ≡ read_at read s at → read (drop at s) ≡ refused k
  unfolding read_at
  not_found k e = with_refused (read (drop at s)) (with_offset s) k (sym e)

  pub refuses : (k : ℕ) → read (drop at s) ≡ refused k → refused k ≡ read_at read s at
  unfolding read_at
  refuses k e = rw e

-- ---- a number leaves a tail

last_tail : (least b : ℕ) (bs : List ℕ) (g : Got ℕ) → last_group least b bs ≡ answered g → Tail g.rest (b ∷ bs)
last_tail least b bs g = go (ltb b least)
  where
    go : (t : Bool) → cond t (refused 12) (answered (record { value = b; rest = bs })) ≡ answered g → Tail g.rest (b ∷ bs)
    go true h = absurd (refused_not_answered h)
    go false h = record { front = b ∷ []; is = ap (λ (x : Got ℕ). b ∷ x.rest) (let q : record { value = b; rest = bs } ≡ g = cc in q) }

number_tail : (more least : ℕ) (bs : List ℕ) (g : Got ℕ) → number_within more least bs ≡ answered g → Tail g.rest bs
number_tail more least [] g h = absurd (refused_not_answered h)
number_tail zero least (b ∷ bs) g h = go (ltb b 16) h
  where
    go : (t : Bool) → cond t (last_group least b bs) (refused 12) ≡ answered g → Tail g.rest (b ∷ bs)
    go true h = last_tail least b bs g h
    go false h = absurd (refused_not_answered h)
number_tail (suc more) least (b ∷ bs) g h = go (ltb b 128) h (number_tail more 1 bs)
  where
    go : (t : Bool) → cond t (last_group least b bs) (with (above (b - 128)) (number_within more 1 bs)) ≡ answered g
        → ((g : Got ℕ) → number_within more 1 bs ≡ answered g → Tail g.rest bs) → Tail g.rest (b ∷ bs)
    go true h ih = last_tail least b bs g h
    go false h ih =
        let c = changed (number_within more 1 bs) (above (b - 128)) g h in
        let t = ih c.value c.first in
        record { front = b ∷ t.front; is = ap (λ (l : List ℕ). b ∷ l) (t.is ∙ ap (λ (x : Got ℕ). t.front ++ x.rest) (sym c.is)) }

pub number_leaves_tail : LeavesTail read_number
unfolding read_number
number_leaves_tail bs g h = number_tail 4 0 bs g h
