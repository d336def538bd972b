-- What has a number is a date, and the number is its day number; and each date has one.
use Rattle.std.specs.Prelude.{◌≡◌, ℕ, Bool, true, false, cond, ◌==◌, ◌≢◌, nat_le}
use Rattle.std.proofs.Math.Path.{refl}
use Rattle.std.proofs.Common.{arith}
use borrow.Author.Tests.{eqb-false, leb-true, ne_eqb, le-leb}
use Rattle.calendar.specs.declared.Date.{Date}
use Rattle.calendar.specs.rules.Date.{leap, month_length, Valid}
use Rattle.calendar.specs.rules.Number.{number_of, is, no_month, no_day, number_rule}

pub no_month_is_not : {n : ℕ} → no_month ≢ is n
no_month_is_not e = let z : ◌≡◌ {A = ℕ} 0 1 = cc in omega arith

pub no_day_is_not : {n : ℕ} → no_day ≢ is n
no_day_is_not e = let z : ◌≡◌ {A = ℕ} 0 1 = cc in omega arith

pub record Taken (d : Date) (n : ℕ) : Type 0 where
  pub valid : Valid d
  pub number : n ≡ number_of d

module _ (d : Date) (n : ℕ) where
  abbrev most : ℕ
  most = month_length (leap d.year) d.month

  by_tests : (a b c : Bool) → (d.day == 0) ≡ b → nat_le d.day most ≡ c
      → cond a (no_month) (cond b (no_day) (cond c (is (number_of d)) (no_day))) ≡ is n → Taken d n
  by_tests true b c p q e = absurd (no_month_is_not e)
  by_tests false true c p q e = absurd (no_day_is_not e)
  by_tests false false false p q e = absurd (no_day_is_not e)
  by_tests false false true p q e =
      let some = eqb-false d.day 0 p in
      record {
        valid = record { from = omega arith; to = leb-true d.day most q };
        number = same e;
      }
    where
      same : is (number_of d) ≡ is n → n ≡ number_of d
      same e = cc

  pub taken : number_rule d ≡ is n → Taken d n
  unfolding number_rule
  taken e = by_tests (most == 0) (d.day == 0) (nat_le d.day most) refl refl e

  -- and each date has one
  pub numbered : Valid d → number_rule d ≡ is (number_of d)
  unfolding number_rule
  numbered v =
      let some : most ≡ 0 → ⊥ = λ e. (let from = v.from in let to = v.to in omega arith) in
      let first : d.day ≡ 0 → ⊥ = λ e. (let from = v.from in omega arith) in
      rw (ne_eqb most 0 some, ne_eqb d.day 0 first, le-leb d.day most v.to)
