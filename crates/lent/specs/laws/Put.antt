-- What a function that puts a text leaves, case by case; its promise fixes the whole slice and the answer.
use Rattle.std.specs.Prelude.{◌≡◌, refl, Bool, true, false, cond, List, ℕ, ◌+◌, ◌≤◌, ◌<◌, leb, Result, Ok, Err}
use Rattle.std.proofs.Common.{sym, ap, ◌∙◌, subst, arith}
use Rattle.std.proofs.Math.ListN.{length}
use borrow.Author.Tests.{le-leb, lt-leb, leb-true, leb-false}
use Rattle.quantity.specs.declared.Refusal.{Refusal}
use Rattle.quantity.specs.declared.Refusal.TheVariants as refusal
use Rattle.quantity.specs.rules.Answer.{Answer, answered, refused, number, shown}
use Rattle.quantity.specs.laws.Answer.{unique, shown_loses_nothing}
use Rattle.quantity.specs.laws.Steps.{same_value, refused_not_answered, stepped, changed}
use Rattle.lent.specs.rules.Writing.{offset_after, Wrote}
use Rattle.lent.specs.rules.Put.{room_for, laid, Put}
use Rattle.lent.specs.notions.Put.{Stands}
use Rattle.lent.specs.laws.Writing.{whole, length_kept}

module _ (text : Answer (List ℕ)) (old : List ℕ) (at : ℕ) where
  pub put_refused : (k : Refusal) → text ≡ refused (number k) → Put text old at old (Err k)
  unfolding room_for
  put_refused k e = record { answer = rw e; slice = rw e }

  module _ (t : List ℕ) (e : text ≡ answered t) where
    pub no_room : length old < at + length t → Put text old at old (Err refusal.List)
    unfolding room_for
    no_room h = record { answer = rw (e, lt-leb (at + length t) (length old) h); slice = rw (e, lt-leb (at + length t) (length old) h) }

    pub puts : (new : List ℕ) (next : ℕ) → at + length t ≤ length old → Wrote old at t new next → Put text old at new (Ok next)
    unfolding room_for
    puts new next h w =
        record {
          answer =
              rw (e, le-leb (at + length t) (length old) h)
              (ap answered (let q : next ≡ at + length t = omega (arith, w.offset) in q));
          slice = rw (e, le-leb (at + length t) (length old) h) (w.text ∙ whole old at t h);
        }

    -- the same by a test of the size
    module _ (size : ℕ) (long : size ≡ length t) (b : Bool) (test : b ≡ leb (at + size) (length old)) where
      pub tested_no_room : b ≡ false → Put text old at old (Err refusal.List)
      tested_no_room h = no_room (omega (arith, leb-false (at + size) (length old) (sym test ∙ h)))

      pub tested_puts : b ≡ true → (new : List ℕ) (next : ℕ) → Wrote old at t new next → Put text old at new (Ok next)
      tested_puts h new next w = puts new next (omega (arith, leb-true (at + size) (length old) (sym test ∙ h))) w

-- a text that was put stands in the slice
pub put_stands : (text : Answer (List ℕ)) (old new : List ℕ) (at next : ℕ) → Put text old at new (Ok next)
    → Stands text old at new next
unfolding room_for
put_stands text old new at next p =
    let c = changed (room_for old at text) (λ (t : List ℕ). at + length t) next (sym p.answer) in
    let s = stepped text (λ (t : List ℕ). cond (leb (at + length t) (length old)) (answered t) (refused 8)) c.value c.first in
    let k = fits (leb (at + length s.value) (length old)) s.value c.value s.next in
    record {
      t = c.value;
      is = s.first ∙ ap answered (sym k.0);
      room = leb-true (at + length c.value) (length old) (ap (λ (t : List ℕ). leb (at + length t) (length old)) k.0 ∙ k.1);
      after = let e = c.is in omega arith;
      slice = p.slice ∙ ap (laid old at) c.first;
    }
  where
    fits : (b : Bool) (t u : List ℕ) → cond b (answered t) (refused 8) ≡ answered u → (u ≡ t) × (b ≡ true)
    fits true t u h = (sym (same_value h), refl)
    fits false t u h = absurd (refused_not_answered h)

-- the offset after a text lies in the slice
pub offset_inside : (text : Answer (List ℕ)) {old new : List ℕ} {at next : ℕ} {r : Result ℕ Refusal} → Put text old at new r
    → r ≡ Ok next → next ≤ length new
offset_inside text {old} {new} {at} {next} {r} p is =
    let s = put_stands text old new at next (subst (Put text old at new) is p) in
    let w : Wrote old at s.t new (offset_after old at s.t) = record { text = s.slice ∙ sym (whole old at s.t s.room); offset = refl } in
    omega (arith, length_kept w, s.room, s.after)

-- 8 for a short slice comes last: any other refusal is given, however short the slice
pub own_refusal_first : (old : List ℕ) (at k : ℕ) → room_for old at (refused k) ≡ refused k
unfolding room_for
own_refusal_first old at k = refl

pub short_slice_last : (old : List ℕ) (at : ℕ) (t : List ℕ) → length old < at + length t → room_for old at (answered t) ≡ refused 8
unfolding room_for
short_slice_last old at t h = rw (lt-leb (at + length t) (length old) h)

pub one_put : {text : Answer (List ℕ)} {old new new' : List ℕ} {at : ℕ} {r s : Result ℕ Refusal} → Put text old at new r
    → Put text old at new' s → (new ≡ new') × (r ≡ s)
one_put {r = r} {s = s} p q = (p.slice ∙ sym q.slice, unique shown shown_loses_nothing r s p.answer q.answer)
