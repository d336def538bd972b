-- How the promises of the radio list reach the C caller.
use Rattle.std.specs.Prelude.{ℕ, ◌≡◌, refl, Result, Ok, Err}
use Rattle.quantity.specs.rules.Answer.{Answer, number, shown}
use Rattle.quantity.specs.declared.Refusal.{Refusal}
use Rattle.list.specs.declared.Star.{Star}
use Rattle.list_groups.specs.rules.Reading.{AtOffset}
use Rattle.list_groups.specs.rules.Read.{shown_read}
use Rattle.brundelak.specs.rules.Put.{HandedNumber}
use Rattle.brundelak.specs.rules.Radio.{HandedOpened, HandedReceived}

pub opened_handed : {a : Answer (AtOffset ℕ)} {r : Result (ℕ × ℕ) Refusal} {stars first count offset : ℕ} → shown_read r ≡ a
    → r ≡ Ok (stars, first) → HandedOpened a 0 count offset stars first
opened_handed p e = rw (← p, e) (record { answers = refl; leaves_count = refl; leaves_offset = refl })

pub not_opened_handed : {a : Answer (AtOffset ℕ)} {r : Result (ℕ × ℕ) Refusal} {n : Refusal} {count offset : ℕ} → shown_read r ≡ a → r ≡ Err n
    → HandedOpened a (number n) count offset count offset
not_opened_handed p e = rw (← p, e) (record { answers = refl; leaves_count = refl; leaves_offset = refl })

pub received_handed : {a : Answer (AtOffset Star)} {r : Result (Star × ℕ) Refusal} {star star₀ star' : Star} {after next : ℕ} → shown_read r ≡ a
    → r ≡ Ok (star, after) → star' ≡ star → HandedReceived a 0 star₀ next star' after
received_handed p e same = rw (← p, e) (record { answers = refl; leaves_star = same; leaves_next = refl })

pub not_received_handed : {a : Answer (AtOffset Star)} {r : Result (Star × ℕ) Refusal} {star : Star} {n : Refusal} {next : ℕ} → shown_read r ≡ a
    → r ≡ Err n → HandedReceived a (number n) star next star next
not_received_handed p e = rw (← p, e) (record { answers = refl; leaves_star = refl; leaves_next = refl })

pub accepted_handed : {a : Answer ℕ} {r : Result ℕ Refusal} {stars count : ℕ} → shown r ≡ a → r ≡ Ok stars
    → HandedNumber a 0 count stars
accepted_handed p e = rw (← p, e) (record { answers = refl; leaves = refl })

pub not_accepted_handed : {a : Answer ℕ} {r : Result ℕ Refusal} {n : Refusal} {count : ℕ} → shown r ≡ a → r ≡ Err n
    → HandedNumber a (number n) count count
not_accepted_handed p e = rw (← p, e) (record { answers = refl; leaves = refl })
