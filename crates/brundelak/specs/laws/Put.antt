-- How the promise of a text put reaches the C caller.
use Rattle.std.specs.Prelude.{ℕ, ◌≡◌, refl, List, Result, Ok, Err}
use Rattle.quantity.specs.rules.Answer.{Answer, number, shown}
use Rattle.quantity.specs.declared.Refusal.{Refusal}
use Rattle.lent.specs.rules.Put.{Put}
use Rattle.brundelak.specs.rules.Put.{HandedNumber, HandedPut}

written_handed : {a : Answer ℕ} {r : Result ℕ Refusal} {after next : ℕ} → shown r ≡ a → r ≡ Ok after
    → HandedNumber a 0 next after
written_handed p e = rw (← p, e) (record { answers = refl; leaves = refl })

not_written_handed : {a : Answer ℕ} {r : Result ℕ Refusal} {n : Refusal} {next : ℕ} → shown r ≡ a → r ≡ Err n
    → HandedNumber a (number n) next next
not_written_handed p e = rw (← p, e) (record { answers = refl; leaves = refl })

pub put_handed : {text : Answer (List ℕ)} {slice slice' : List ℕ} {at next after : ℕ} {r : Result ℕ Refusal} → Put text slice at slice' r
    → r ≡ Ok after → HandedPut text slice at 0 next slice' after
put_handed p e = record { offset_after_lem = written_handed p.answer e; leaves_slice = p.slice }

pub not_put_handed : {text : Answer (List ℕ)} {slice slice' : List ℕ} {at : ℕ} {n : Refusal} {next : ℕ} {r : Result ℕ Refusal} → Put text slice at slice' r
    → r ≡ Err n → HandedPut text slice at (number n) next slice' next
not_put_handed p e = record { offset_after_lem = not_written_handed p.answer e; leaves_slice = p.slice }
