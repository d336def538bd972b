-- A star's status where the days are not refused: 10 exactly where its place is empty, 9 exactly where it is not and its record is out of
-- range, 3 exactly where a kept record in range has its shifted declination past HALF in size; and then what its place, by whatever rule, is
-- answered.
use Rattle.std.specs.Prelude.{ℕ, ◌≡◌, refl, ◌↔◌, Bool, true, false, not, cond, ◌&&◌, T, Float}
use Rattle.std.proofs.Common.{sym, arith}
use Rattle.quantity.specs.rules.Answer.{Answer, answered, refused, Pair, unless, status_of}
use Rattle.quantity.specs.laws.Steps.{refused_not_answered, same_number}
use Rattle.precess_angles.specs.rules.Days.{days_refusal}
use Rattle.list.specs.declared.Star.{Star}
use Rattle.list.specs.rules.Record.{in_range}
use Rattle.list.specs.rules.Stars.{is_kept}
use Rattle.star_place.specs.rules.Place.{years_between}
use Rattle.star_store.specs.rules.Star.{star_refusal}
use Rattle.star_store.specs.notions.Status.{is_past_the_pole, OfItsPlace}
use Rattle.star_store.specs.laws.Star.{refusal_in_range, star_in_cases}

not_same : (m n : ℕ) → (m ≡ n → ⊥) → ◌≡◌ {A = Answer Pair} (refused m) (refused n) → ⊥
not_same m n differ e = differ (same_number e)

module _ (star : Star) (day1 day2 : Float) (days : days_refusal day1 day2 ≡ 0) (place : Answer Pair) where
  abbrev years : Float
  years = years_between day1 day2

  abbrev answer : Answer Pair
  answer = unless (star_refusal star years) place

  -- the star's answer, by its number, its range and its declination
  abbrev in_cases : Bool → Bool → Bool → Answer Pair
  in_cases kept range past = cond kept (cond range (cond past (refused 3) place) (refused 9)) (refused 10)

  -- what the cases say of the star
  abbrev Told : Bool → Bool → Bool → Type 0
  Told k b p = (k ≡ true → is_kept star ≡ true) × ((b ≡ true → in_range star ≡ true) × (p ≡ false → is_past_the_pole star years ≡ false))

  -- where its place is reached the star is not refused
  taken : Told true true false → star_refusal star years ≡ 0
  taken t = rw (t.1.1 refl) at (refusal_in_range star day1 day2 days (t.0 refl) (t.1.0 refl))

  -- what holds in every case holds of the star
  by_cases : (P : Answer Pair → Bool → Bool → Bool → Type 0) → ((k b p : Bool) → Told k b p → P (in_cases k b p) k b p)
      → P answer (is_kept star) (in_range star) (is_past_the_pole star years)
  by_cases P each =
      rw (star_in_cases star day1 day2 days place) (each (is_kept star) (in_range star) (is_past_the_pole star years) (λ e. e, (λ e. e, λ e. e)))

  -- what holds of 0, 3, 9 and 10 and of what its place is refused by holds of its status
  pub status_of_a_star : (P : ℕ → Type 0) → P 0 → P 3 → P 9 → P 10 → (star_refusal star years ≡ 0 → (n : ℕ) → place ≡ refused n → P n)
      → P (status_of answer)
  status_of_a_star P zero three nine ten meets = by_cases (λ (a : Answer Pair) (k b p : Bool). P (status_of a)) each
    where
      of_its_place : (a : Answer Pair) → ((n : ℕ) → a ≡ refused n → P n) → P (status_of a)
      of_its_place (answered v) h = zero
      of_its_place (refused n) h = h n refl

      each : (k b p : Bool) → Told k b p → P (status_of (in_cases k b p))
      each true true true told = three
      each true true false told = of_its_place place (meets (taken told))
      each true false p told = nine
      each false b p told = ten

  -- what holds of the values of its place holds of its own
  pub answer_of_a_star : (P : Pair → Type 0) → (star_refusal star years ≡ 0 → (v : Pair) → place ≡ answered v → P v)
      → (v : Pair) → answer ≡ answered v → P v
  answer_of_a_star P holds v = by_cases (λ (a : Answer Pair) (k b p : Bool). a ≡ answered v → P v) each
    where
      each : (k b p : Bool) → Told k b p → in_cases k b p ≡ answered v → P v
      each true true true told e = absurd (refused_not_answered e)
      each true true false told e = holds (taken told) v e
      each true false p told e = absurd (refused_not_answered e)
      each false b p told e = absurd (refused_not_answered e)

  -- a place that is refused by none of 3, 9 and 10
  module _ (meets : star_refusal star years ≡ 0 → (n : ℕ) → place ≡ refused n → OfItsPlace n) where
    pub ten_of_a_star : answer ≡ refused 10 ↔ T (not (is_kept star))
    ten_of_a_star = by_cases (λ (a : Answer Pair) (k b p : Bool). a ≡ refused 10 ↔ T (not k)) each
      where
        each : (k b p : Bool) → Told k b p → in_cases k b p ≡ refused 10 ↔ T (not k)
        each true true true told = (λ e. not_same 3 10 (omega arith) e, λ t. absurd t)
        each true true false told = (λ e. (meets (taken told) 10 e).not_ten refl, λ t. absurd t)
        each true false p told = (λ e. not_same 9 10 (omega arith) e, λ t. absurd t)
        each false b p told = (λ e. tt, λ t. refl)

    pub nine_of_a_star : answer ≡ refused 9 ↔ T (is_kept star && not (in_range star))
    nine_of_a_star = by_cases (λ (a : Answer Pair) (k b p : Bool). a ≡ refused 9 ↔ T (k && not b)) each
      where
        each : (k b p : Bool) → Told k b p → in_cases k b p ≡ refused 9 ↔ T (k && not b)
        each true true true told = (λ e. not_same 3 9 (omega arith) e, λ t. absurd t)
        each true true false told = (λ e. (meets (taken told) 9 e).not_nine refl, λ t. absurd t)
        each true false p told = (λ e. tt, λ t. refl)
        each false b p told = (λ e. not_same 10 9 (omega arith) e, λ t. absurd t)

    pub three_of_a_star : answer ≡ refused 3 ↔ T (is_kept star && (in_range star && is_past_the_pole star years))
    three_of_a_star = by_cases (λ (a : Answer Pair) (k b p : Bool). a ≡ refused 3 ↔ T (k && (b && p))) each
      where
        each : (k b p : Bool) → Told k b p → in_cases k b p ≡ refused 3 ↔ T (k && (b && p))
        each true true true told = (λ e. tt, λ t. refl)
        each true true false told = (λ e. (meets (taken told) 3 e).not_three refl, λ t. absurd t)
        each true false p told = (λ e. absurd (not_same 9 3 (omega arith) e), λ t. absurd t)
        each false b p told = (λ e. absurd (not_same 10 3 (omega arith) e), λ t. absurd t)

  -- another number exactly where the star is let pass and its place has that number
  pub later_of_a_star : (m : ℕ) → OfItsPlace m → (met : Bool) → (star_refusal star years ≡ 0 → place ≡ refused m ↔ T met)
      → answer ≡ refused m ↔ T (is_kept star && (in_range star && (not (is_past_the_pole star years) && met)))
  later_of_a_star m other met at_its_place =
      by_cases (λ (a : Answer Pair) (k b p : Bool). a ≡ refused m ↔ T (k && (b && (not p && met)))) each
    where
      each : (k b p : Bool) → Told k b p → in_cases k b p ≡ refused m ↔ T (k && (b && (not p && met)))
      each true true true told = (λ e. absurd (other.not_three (same_number (sym e))), λ t. absurd t)
      each true true false told = at_its_place (taken told)
      each true false p told = (λ e. absurd (other.not_nine (same_number (sym e))), λ t. absurd t)
      each false b p told = (λ e. absurd (other.not_ten (same_number (sym e))), λ t. absurd t)
