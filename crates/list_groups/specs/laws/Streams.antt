-- A reader looks no further than it must: bytes after those that settle its answer change nothing, and a refusal other than 13, which is
-- for bytes that end first, is given at the byte that shows it.
use Rattle.std.specs.Prelude.{◌≡◌, Bool, true, false, cond, List, [], ◌∷◌, ◌++◌, ltb}
use Rattle.std.proofs.Math.Path.{refl, ap}
use Rattle.std.proofs.Common.{sym, ◌∙◌, arith}
use Prim.Native.Nat.{ℕ, zero, suc, ◌-◌}
use Rattle.quantity.specs.rules.Answer.{Answer, answered, refused, with, then}
use Rattle.list_groups.specs.rules.Reading.{Got, last_group, above, number_within, read_number}
use Rattle.list_groups.specs.rules.Several.{before, read_all}
use Rattle.list_groups.specs.notions.Streams.{longer, Streams}
use Rattle.quantity.specs.laws.Steps.{refused_not_answered, stepped, changed, with_refused}

-- ---- a number

module _ (least b : ℕ) (bs more : List ℕ) where
  last_answers : (g : Got ℕ) → last_group least b bs ≡ answered g → last_group least b (bs ++ more) ≡ answered (longer more g)
  last_answers g = go (ltb b least)
    where
      go : (t : Bool) → cond t (refused 12) (answered (record { value = b; rest = bs })) ≡ answered g
          → cond t (refused 12) (answered (record { value = b; rest = bs ++ more })) ≡ answered (longer more g)
      go true h = absurd (refused_not_answered h)
      go false h = ap (λ (x : Got ℕ). answered (longer more x)) (let q : record { value = b; rest = bs } ≡ g = cc in q)

  last_refuses : (k : ℕ) → last_group least b bs ≡ refused k → last_group least b (bs ++ more) ≡ refused k
  last_refuses k = go (ltb b least)
    where
      go : (t : Bool)
          → cond {A = Answer (Got ℕ)} t (refused 12) (answered (record { value = b; rest = bs })) ≡ refused k
          → cond {A = Answer (Got ℕ)} t (refused 12) (answered (record { value = b; rest = bs ++ more })) ≡ refused k
      go true h = cc
      go false h = absurd (refused_not_answered (sym h))

number_answers : (left least : ℕ) (bs more : List ℕ) (g : Got ℕ) → number_within left least bs ≡ answered g
    → number_within left least (bs ++ more) ≡ answered (longer more g)
number_answers left least [] more g h = absurd (refused_not_answered h)
number_answers zero least (b ∷ bs) more g h = go (ltb b 16) h
  where
    go : (t : Bool) → cond t (last_group least b bs) (refused 12) ≡ answered g
        → cond t (last_group least b (bs ++ more)) (refused 12) ≡ answered (longer more g)
    go true h = last_answers least b bs more g h
    go false h = absurd (refused_not_answered h)
number_answers (suc left) least (b ∷ bs) more g h = go (ltb b 128) h (number_answers left 1 bs more)
  where
    go : (t : Bool) → cond t (last_group least b bs) (with (above (b - 128)) (number_within left 1 bs)) ≡ answered g
        → ((f : Got ℕ) → number_within left 1 bs ≡ answered f → number_within left 1 (bs ++ more) ≡ answered (longer more f))
        → cond t (last_group least b (bs ++ more)) (with (above (b - 128)) (number_within left 1 (bs ++ more))) ≡ answered (longer more g)
    go true h ih = last_answers least b bs more g h
    go false h ih =
        let c = changed (number_within left 1 bs) (above (b - 128)) g h in
        ap (with (above (b - 128))) (ih c.value c.first) ∙ ap (λ (x : Got ℕ). answered (longer more x)) (sym c.is)

number_refuses : (left least : ℕ) (bs more : List ℕ) (k : ℕ) → number_within left least bs ≡ refused k → (k ≡ 13 → ⊥)
    → number_within left least (bs ++ more) ≡ refused k
number_refuses left least [] more k h d = absurd (d (let q : k ≡ 13 = cc in q))
number_refuses zero least (b ∷ bs) more k h d = go (ltb b 16) h
  where
    go : (t : Bool) → cond t (last_group least b bs) (refused 12) ≡ refused k
        → cond t (last_group least b (bs ++ more)) (refused 12) ≡ refused k
    go true h = last_refuses least b bs more k h
    go false h = h
number_refuses (suc left) least (b ∷ bs) more k h d = go (ltb b 128) h (λ e. number_refuses left 1 bs more k e d)
  where
    go : (t : Bool) → cond t (last_group least b bs) (with (above (b - 128)) (number_within left 1 bs)) ≡ refused k
        → (number_within left 1 bs ≡ refused k → number_within left 1 (bs ++ more) ≡ refused k)
        → cond t (last_group least b (bs ++ more)) (with (above (b - 128)) (number_within left 1 (bs ++ more))) ≡ refused k
    go true h ih = last_refuses least b bs more k h
    go false h ih = ap (with (above (b - 128))) (ih (with_refused (number_within left 1 bs) (above (b - 128)) k h))

pub number_streams : Streams read_number
unfolding read_number
number_streams = record { answers = number_answers 4 0; refuses = number_refuses 4 0 }

-- a number is refused by 12 at its byte: no byte after it matters
pub twelve_at_its_byte : (bs more : List ℕ) → read_number bs ≡ refused 12 → read_number (bs ++ more) ≡ refused 12
twelve_at_its_byte bs more h = number_streams.refuses bs more 12 h (λ e. omega arith)

-- ---- several in turn

module _ {A : Type 0} (read : List ℕ → Answer (Got A)) (one : Streams read) where
  all_answer : (n : ℕ) (bs more : List ℕ) (g : Got (List A)) → read_all read n bs ≡ answered g
      → read_all read n (bs ++ more) ≡ answered (longer more g)
  unfolding read_all
  all_answer zero bs more g h = ap (λ (x : Got (List A)). answered (longer more x)) (let q : record { value = []; rest = bs } ≡ g = cc in q)
  all_answer (suc n) bs more g h =
      let s = stepped (read bs) (λ (f : Got A). with (before f.value) (read_all read n f.rest)) g h in
      let f = s.value in
      let c = changed (read_all read n f.rest) (before f.value) g s.next in
      rw (one.answers bs more f s.first)
      (ap (with (before f.value)) (all_answer n f.rest more c.value c.first) ∙ ap (λ (x : Got (List A)). answered (longer more x)) (sym c.is))

  all_refuse : (n : ℕ) (bs more : List ℕ) (k : ℕ) → read_all read n bs ≡ refused k → (k ≡ 13 → ⊥) → read_all read n (bs ++ more) ≡ refused k
  unfolding read_all
  all_refuse zero bs more k h d = absurd (refused_not_answered (sym h))
  all_refuse (suc n) bs more k h d =
      go (read bs) (one.answers bs more) (one.refuses bs more k) (λ (f : Got A). all_refuse n f.rest more k) h d
    where
      go : (x : Answer (Got A)) → ((g : Got A) → x ≡ answered g → read (bs ++ more) ≡ answered (longer more g))
          → (x ≡ refused k → (k ≡ 13 → ⊥) → read (bs ++ more) ≡ refused k)
          → ((f : Got A) → read_all read n f.rest ≡ refused k → (k ≡ 13 → ⊥) → read_all read n (f.rest ++ more) ≡ refused k)
          → then x (λ (f : Got A). with (before f.value) (read_all read n f.rest)) ≡ refused k → (k ≡ 13 → ⊥)
          → then (read (bs ++ more)) (λ (f : Got A). with (before f.value) (read_all read n f.rest)) ≡ refused k
      go (answered f) goes ends ih h d =
          rw (goes f refl) (ap (with (before f.value)) (ih f (with_refused (read_all read n f.rest) (before f.value) k h) d))
      go (refused j) goes ends ih h d = rw (ends (ap refused (let q : j ≡ k = cc in q)) d)

  pub all_stream : (n : ℕ) → Streams (read_all read n)
  all_stream n = record { answers = all_answer n; refuses = all_refuse n }

-- ---- a reader and then a test of the value that it read

module _ {A B : Type 0} (read : List ℕ → Answer (Got A)) (one : Streams read) (f : Got A → Answer (Got B))
    (passes : (g : Got A) (h : Got B) (more : List ℕ) → f g ≡ answered h → f (longer more g) ≡ answered (longer more h))
    (stops : (g : Got A) (k : ℕ) (more : List ℕ) → f g ≡ refused k → f (longer more g) ≡ refused k) where
  then_answers : (bs more : List ℕ) (h : Got B) → then (read bs) f ≡ answered h → then (read (bs ++ more)) f ≡ answered (longer more h)
  unfolding then
  then_answers bs more h e =
      let s = stepped (read bs) f h e in
      rw (one.answers bs more s.value s.first) (passes s.value h more s.next)

  then_refuses : (bs more : List ℕ) (k : ℕ) → then (read bs) f ≡ refused k → (k ≡ 13 → ⊥) → then (read (bs ++ more)) f ≡ refused k
  unfolding then
  then_refuses bs more k e d = go (read bs) refl e
    where
      go : (x : Answer (Got A)) → read bs ≡ x → then x f ≡ refused k → then (read (bs ++ more)) f ≡ refused k
      go (answered g) q h = rw (one.answers bs more g q) (stops g k more h)
      go (refused j) q h = rw (one.refuses bs more k (q ∙ ap refused (let z : j ≡ k = cc in z)) d)

  pub then_streams : Streams (λ (bs : List ℕ). then (read bs) f)
  then_streams = record { answers = then_answers; refuses = then_refuses }
