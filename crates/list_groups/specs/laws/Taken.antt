-- A number takes at most five bytes, and several of them at most as many each.
use Rattle.std.specs.Prelude.{◌≡◌, Bool, true, false, cond, ltb}
use Rattle.std.proofs.Math.Path.{refl, ap}
use Rattle.std.proofs.Common.{sym, ◌∙◌, arith}
use mathlib.Core.List.{List, [], ◌∷◌}
use Prim.Native.Nat.{ℕ, zero, suc, ◌+◌, ◌*◌, ◌-◌, ◌≤◌, ◌<◌}
use Rattle.std.proofs.Math.ListN.{length}
use Rattle.quantity.specs.rules.Answer.{Answer, answered, refused, with, then}
use Rattle.list_groups.specs.rules.Reading.{Got, last_group, above, number_within, read_number}
use Rattle.list_groups.specs.rules.Several.{before, read_all}
use Rattle.list_groups.specs.notions.Streams.{TakesAtMost}
use Rattle.quantity.specs.laws.Steps.{refused_not_answered, stepped, changed, with_refused}

-- ---- a number

last_takes : (least b : ℕ) (bs : List ℕ) (g : Got ℕ) → last_group least b bs ≡ answered g → length bs ≡ length g.rest
last_takes least b bs g = go (ltb b least)
  where
    go : (t : Bool) → cond t (refused 12) (answered (record { value = b; rest = bs })) ≡ answered g → length bs ≡ length g.rest
    go true h = absurd (refused_not_answered h)
    go false h = ap (λ (x : Got ℕ). length x.rest) (let q : record { value = b; rest = bs } ≡ g = cc in q)

last_ends : (least b : ℕ) (bs : List ℕ) → last_group least b bs ≡ refused 13 → ⊥
last_ends least b bs = go (ltb b least)
  where
    go : (t : Bool) → cond {A = Answer (Got ℕ)} t (refused 12) (answered (record { value = b; rest = bs })) ≡ refused 13 → ⊥
    go true h = let z : ◌≡◌ {A = ℕ} 12 13 = cc in omega arith
    go false h = refused_not_answered (sym h)

number_takes : (more least : ℕ) (bs : List ℕ) (g : Got ℕ) → number_within more least bs ≡ answered g
    → length bs ≤ suc more + length g.rest
number_takes more least [] g h = omega arith
number_takes zero least (b ∷ bs) g h = go (ltb b 16) h
  where
    go : (t : Bool) → cond t (last_group least b bs) (refused 12) ≡ answered g → length (b ∷ bs) ≤ 1 + length g.rest
    go true h = omega (arith, last_takes least b bs g h)
    go false h = absurd (refused_not_answered h)
number_takes (suc more) least (b ∷ bs) g h = go (ltb b 128) h (number_takes more 1 bs)
  where
    go : (t : Bool) → cond t (last_group least b bs) (with (above (b - 128)) (number_within more 1 bs)) ≡ answered g
        → ((g : Got ℕ) → number_within more 1 bs ≡ answered g → length bs ≤ suc more + length g.rest) → length (b ∷ bs) ≤ suc (suc more) + length g.rest
    go true h ih = omega (arith, last_takes least b bs g h)
    go false h ih =
        let c = changed (number_within more 1 bs) (above (b - 128)) g h in
        omega (arith, ih c.value c.first, ap (λ (x : Got ℕ). length x.rest) c.is)

number_ends : (more least : ℕ) (bs : List ℕ) → number_within more least bs ≡ refused 13 → length bs < suc more
number_ends more least [] h = omega arith
number_ends zero least (b ∷ bs) h = absurd (go (ltb b 16) h)
  where
    go : (t : Bool) → cond t (last_group least b bs) (refused 12) ≡ refused 13 → ⊥
    go true h = last_ends least b bs h
    go false h = let z : ◌≡◌ {A = ℕ} 12 13 = cc in omega arith
number_ends (suc more) least (b ∷ bs) h = go (ltb b 128) h (number_ends more 1 bs)
  where
    go : (t : Bool) → cond t (last_group least b bs) (with (above (b - 128)) (number_within more 1 bs)) ≡ refused 13
        → (number_within more 1 bs ≡ refused 13 → length bs < suc more) → length (b ∷ bs) < suc (suc more)
    go true h ih = absurd (last_ends least b bs h)
    go false h ih = omega (arith, ih (with_refused (number_within more 1 bs) (above (b - 128)) 13 h))

pub number_takes_five : TakesAtMost 5 read_number
unfolding read_number
number_takes_five = record { takes = number_takes 4 0; ends = number_ends 4 0 }

-- ---- several

module _ {A : Type 0} (most : ℕ) (read : List ℕ → Answer (Got A)) (one : TakesAtMost most read) where
  all_take : (n : ℕ) (bs : List ℕ) (g : Got (List A)) → read_all read n bs ≡ answered g → length bs ≤ n * most + length g.rest
  unfolding read_all
  all_take zero bs g h = omega (arith, ap (λ (x : Got (List A)). length x.rest) (let q : record { value = []; rest = bs } ≡ g = cc in q))
  all_take (suc n) bs g h =
      let s = stepped (read bs) (λ (f : Got A). with (before f.value) (read_all read n f.rest)) g h in
      let f = s.value in
      let c = changed (read_all read n f.rest) (before f.value) g s.next in
      omega
      (arith, one.takes bs f s.first, all_take n f.rest c.value c.first, ap (λ (x : Got (List A)). length x.rest) c.is)

  all_end : (n : ℕ) (bs : List ℕ) → read_all read n bs ≡ refused 13 → length bs < n * most
  unfolding read_all then
  all_end zero bs h = absurd (refused_not_answered (sym h))
  all_end (suc n) bs h = go (read bs) refl (all_end n) h
    where
      go : (x : Answer (Got A)) → read bs ≡ x → ((l : List ℕ) → read_all read n l ≡ refused 13 → length l < n * most)
          → then x (λ (f : Got A). with (before f.value) (read_all read n f.rest)) ≡ refused 13 → length bs < suc n * most
      go (answered f) e ih h =
          omega (arith, one.takes bs f e, ih f.rest (with_refused (read_all read n f.rest) (before f.value) 13 h))
      go (refused j) e ih h = omega (arith, one.ends bs (e ∙ ap refused (let q : j ≡ 13 = cc in q)))

  pub all_take_at_most : (n : ℕ) → TakesAtMost (n * most) (read_all read n)
  all_take_at_most n = record { takes = all_take n; ends = all_end n }

-- ---- a reader and then a test of the value that it read

module _ {A B : Type 0} (most : ℕ) (read : List ℕ → Answer (Got A)) (one : TakesAtMost most read) (f : Got A → Answer (Got B))
    (keeps : (g : Got A) (h : Got B) → f g ≡ answered h → length g.rest ≡ length h.rest)
    (other : (g : Got A) → f g ≡ refused 13 → ⊥) where
  then_ends : (bs : List ℕ) → then (read bs) f ≡ refused 13 → length bs < most
  unfolding then
  then_ends bs h = go (read bs) refl h
    where
      go : (x : Answer (Got A)) → read bs ≡ x → then x f ≡ refused 13 → length bs < most
      go (answered g) e h = absurd (other g h)
      go (refused j) e h = one.ends bs (e ∙ ap refused (let q : j ≡ 13 = cc in q))

  pub then_takes_at_most : TakesAtMost most (λ (bs : List ℕ). then (read bs) f)
  then_takes_at_most =
      record {
        takes = λ (bs : List ℕ) (h : Got B) e.
            let s = stepped (read bs) f h e in
            omega (arith, one.takes bs s.value s.first, keeps s.value h s.next);
        ends = then_ends;
      }
