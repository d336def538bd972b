-- How the promises of find, of the reader and of a tally reach the C caller.
use Rattle.std.specs.Prelude.{ℕ, ◌≡◌, refl, List, ℤ, Option, Some, None, Result, Ok, Err}
use Rattle.std.proofs.Common.{sym, eq-eqb, ne_eqb}
use Rattle.quantity.specs.rules.Answer.{Answer, number}
use Rattle.list.specs.declared.Star.{Star}
use Rattle.list.specs.rules.Find.{Entry, shown_found}
use Rattle.list.specs.rules.Reader.{Item, shown_stored}
use Rattle.quantity.specs.declared.Refusal.{Refusal}
use Rattle.star_store.specs.rules.Stored.{Tallied}
use Rattle.brundelak.specs.rules.Stored.{fields, HandedFound, HandedStar, HandedTally}

pub found_handed : {a : Answer Entry} {r : Result (ℕ × Star) Refusal} {i index asc₀ : ℕ} {star : Star} {d u v dec ascRate decRate : ℤ} → shown_found r ≡ a
    → r ≡ Ok (i, star) → d ≡ star.dec → u ≡ star.asc_rate → v ≡ star.dec_rate
    → HandedFound a 0 index asc₀ dec ascRate decRate i star.asc d u v
found_handed p e d u v =
    rw (← p, e)
    (record { answers = refl; leaves_index = refl; leaves_asc = refl; leaves_dec = d; leaves_asc_rate = u; leaves_dec_rate = v })

pub not_found_handed : {a : Answer Entry} {r : Result (ℕ × Star) Refusal} {n : Refusal} {index asc : ℕ} {dec ascRate decRate : ℤ} → shown_found r ≡ a → r ≡ Err n
    → HandedFound a (number n) index asc dec ascRate decRate index asc dec ascRate decRate
not_found_handed p e =
    rw (← p, e)
    (record { answers = refl; leaves_index = refl; leaves_asc = refl; leaves_dec = refl; leaves_asc_rate = refl; leaves_dec_rate = refl })

pub star_handed : {a : Answer Item} {r : Result (Option (Star × ℕ)) Refusal} {star star₀ star' : Star} {after next : ℕ} → shown_stored r ≡ a
    → r ≡ Ok (Some (star, after)) → star' ≡ star → HandedStar a 0 star₀ next star' after
star_handed p e same = rw (← p, e) (record { answers = refl; leaves_star = same; leaves_next = refl })

pub end_handed : {a : Answer Item} {r : Result (Option (Star × ℕ)) Refusal} {star : Star} {next : ℕ} → shown_stored r ≡ a → r ≡ Ok None
    → HandedStar a 255 star next star next
end_handed p e = rw (← p, e) (record { answers = refl; leaves_star = refl; leaves_next = refl })

pub not_stored_handed : {a : Answer Item} {r : Result (Option (Star × ℕ)) Refusal} {star : Star} {n : Refusal} {next : ℕ} → shown_stored r ≡ a
    → r ≡ Err n → HandedStar a (number n) star next star next
not_stored_handed p e = rw (← p, e) (record { answers = refl; leaves_star = refl; leaves_next = refl })

-- a star handed over field by field: each signed one as its word says it
pub field_by_field : (star : Star) {d u v : ℤ} → d ≡ star.dec → u ≡ star.asc_rate → v ≡ star.dec_rate
    → fields star.number star.asc d u v ≡ star
field_by_field star d u v = λ i. fields star.number star.asc (d i) (u i) (v i)

pub tally_refused : (t : Tallied) {counts : List ℕ} → (t.refusal ≡ 0 → ⊥) → HandedTally t t.refusal counts counts
tally_refused t h = record { answers = refl; leaves_counts = rw (ne_eqb t.refusal 0 h) }

pub tally_handed : (t : Tallied) {counts : List ℕ} → t.refusal ≡ 0 → HandedTally t 0 counts t.tally.counts
tally_handed t e = record { answers = sym e; leaves_counts = rw (eq-eqb t.refusal 0 e) }
