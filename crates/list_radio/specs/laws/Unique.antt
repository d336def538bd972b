-- What is shown of an answer loses nothing, so that each contract holds of one answer only.
use Rattle.std.specs.Prelude.{◌≡◌, List, ℕ, get_or, Result, Ok, Err}
use Rattle.std.proofs.Common.{ap}
use Rattle.quantity.specs.declared.Refusal.{Refusal}
use Rattle.list.specs.laws.Answer.{same_refusal}
use Rattle.list_groups.specs.rules.Reading.{AtOffset}
use Rattle.list_groups.specs.laws.Unique.{same_offset}
use Rattle.list_radio.specs.rules.Reader.{shown_place, shown_rates}

pub place_loses_nothing : (r s : Result (ℕ × ℕ × ℕ × ℕ) Refusal) → shown_place r ≡ shown_place s → r ≡ s
place_loses_nothing (Ok (m, a, d, p)) (Ok (n, b, e, q)) h =
    ap (λ (x : AtOffset (List ℕ)). Ok (get_or x.value 0 0, get_or x.value 1 0, get_or x.value 2 0, x.offset)) (same_offset _ _ h)
place_loses_nothing (Ok (m, a, d, p)) (Err n) h = cc
place_loses_nothing (Err m) (Ok (n, b, e, q)) h = cc
place_loses_nothing (Err m) (Err n) h = ap Err (same_refusal m n h)

pub rates_lose_nothing : (r s : Result (ℕ × ℕ × ℕ) Refusal) → shown_rates r ≡ shown_rates s → r ≡ s
rates_lose_nothing (Ok (u, v, p)) (Ok (w, x, q)) h =
    ap (λ (y : AtOffset (List ℕ)). Ok (get_or y.value 0 0, get_or y.value 1 0, y.offset)) (same_offset _ _ h)
rates_lose_nothing (Ok (u, v, p)) (Err n) h = cc
rates_lose_nothing (Err m) (Ok (w, x, q)) h = cc
rates_lose_nothing (Err m) (Err n) h = ap Err (same_refusal m n h)
