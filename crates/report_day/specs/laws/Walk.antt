-- A loop whose pass writes the digit of what is left writes all digits.
use Rattle.std.specs.Prelude.{ℕ, zero, suc, ◌-◌, ◌<◌, min, ◌≡◌, refl, Bool, true, false, cond, eqb, length}
use Rattle.std.proofs.Common.{sym, ◌∙◌, arith}
use Rattle.std.proofs.Math.Path.{ap}
use mathlib.Core.List.{List, [], ◌∷◌, ◌++◌, append_assoc, append-nil}
use Rattle.lent.specs.rules.Writing.{Wrote}
use Rattle.lent.specs.laws.Writing.{after, same, nothing, length_kept}
use Rattle.report_day.specs.rules.Digits.{digit_of, left_of, count_after, digits_text}
use Rattle.report_day.specs.notions.Walk.{Upto}

-- what follows a digit
follows : (n left : ℕ) → digit_of left ∷ digits_text (count_after (suc n) (left_of left)) (left_of left) ≡ digits_text (suc n) left
unfolding digits_text
follows n left = by_case (eqb (left_of left) 0)
  where
    by_case : (b : Bool)
        → digit_of left ∷ digits_text (cond b 0 (suc n - 1)) (left_of left) ≡ digit_of left ∷ cond b [] (digits_text n (left_of left))
    by_case true = refl
    by_case false = ap (λ (k : ℕ). digit_of left ∷ digits_text k (left_of left)) (let e : suc n - 1 ≡ n = omega arith in e)

module _ {old : List ℕ} {at : ℕ} {all : List ℕ} where
  pub begun : {offset left n : ℕ} → offset ≡ min at (length old) → digits_text n left ≡ all → Upto old at all old offset left n
  begun e a = record { done = []; wrote = nothing _ _ _ e; rest = a }

  pub passed : {new new' : List ℕ} {offset offset' left n : ℕ} → Upto old at all new offset left n → (n ≡ 0 → ⊥)
      → Wrote new offset (digit_of left ∷ []) new' offset' → Upto old at all new' offset' (left_of left) (count_after n (left_of left))
  passed {n = zero} u some w = absurd (some refl)
  passed {left = left} {n = suc n} u some w =
      record {
        done = u.done ++ (digit_of left ∷ []);
        wrote = after u.wrote w;
        rest = append_assoc u.done (digit_of left ∷ []) _ ∙ ap (λ (t : List ℕ). u.done ++ t) (follows n left) ∙ u.rest;
      }

  pub ended : {new : List ℕ} {offset left n : ℕ} → Upto old at all new offset left n → n ≡ 0 → Wrote old at all new offset
  unfolding digits_text
  ended u e = same (sym (append-nil u.done) ∙ ap (λ (t : List ℕ). u.done ++ t) (rw e) ∙ u.rest) u.wrote

  -- the slice's length
  pub stays : {new : List ℕ} {offset left n : ℕ} → Upto old at all new offset left n → length new ≡ length old
  stays u = length_kept u.wrote

-- a pass less
pub falls : (n left : ℕ) → (n ≡ 0 → ⊥) → count_after n left < n
falls n left some = by_case (eqb left 0)
  where
    by_case : (b : Bool) → cond b 0 (n - 1) < n
    by_case true = omega (arith, some)
    by_case false = omega (arith, some)
