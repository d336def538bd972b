-- The next date is a date, and its day number is one more.
use Rattle.std.specs.Prelude.{◌≡◌, ℕ, suc, ◌+◌, ◌<◌, ◌≤◌, Bool, true, false, cond, nat_le, nat_lt}
use Rattle.std.proofs.Math.Path.{refl, sym, ap}
use Rattle.std.proofs.Common.{◌∙◌, arith, leb→le}
use borrow.Author.Tests.{ltb-true, ltb-false}
use Rattle.calendar.specs.declared.Date.{Date}
use Rattle.calendar.specs.rules.Date.{date, leap, month_length, year_length, Valid, next, total, days_before, days_before_year}
use Rattle.calendar.specs.rules.Number.{number_of}
use Rattle.calendar.specs.laws.Every.{every_at}
use Rattle.calendar.specs.laws.Closed.{no_month_past}

-- ---- months

first_day_lem : (l : Bool) (m : ℕ) → m < 12 → 1 ≤ month_length l (suc m)
unfolding month_length
first_day_lem true m h = leb→le 1 _ (every_at (λ (m : ℕ). nat_le 1 (month_length true (suc m))) 12 m tt h)
first_day_lem false m h = leb→le 1 _ (every_at (λ (m : ℕ). nat_le 1 (month_length false (suc m))) 12 m tt h)

-- the months make the year
pub whole_year : (l : Bool) → days_before l 13 ≡ year_length l
unfolding days_before total month_length
whole_year true = refl
whole_year false = refl

none_before_january : (l : Bool) → days_before l 1 ≡ 0
unfolding days_before total month_length
none_before_january l = refl

one_month_more : (l : Bool) (m : ℕ) → days_before l (suc m) ≡ days_before l m + month_length l m
unfolding days_before total
one_month_more l m = refl

one_year_more : (y : ℕ) → days_before_year (suc y) ≡ days_before_year y + year_length (leap y)
unfolding days_before_year total
one_year_more y = refl

-- ---- the next date

module _ (d : Date) (v : Valid d) where
  abbrev l : Bool
  l = leap d.year

  abbrev most : ℕ
  most = month_length l d.month

  in_year : d.month ≤ 12
  in_year = no_month_past l d.month (omega (arith, v.from, v.to))

  pub next_is_one_more : number_of (next d) ≡ number_of d + 1
  unfolding next number_of
  next_is_one_more = by_day (nat_lt d.day most) refl
    where
      by_month : (b : Bool) → nat_lt d.month 12 ≡ b → d.day ≡ most
          → number_of (cond b (date d.year (suc d.month) 1) (date (suc d.year) 1 1)) ≡ number_of d + 1
      by_month true e z = omega (arith, one_month_more l d.month)
      by_month false e z =
          let twelve : d.month ≡ 12 = omega (arith, ltb-false d.month 12 e, in_year) in
          let months : days_before l d.month + most ≡ year_length l =
          ap (λ (m : ℕ). days_before l m + month_length l m) twelve ∙ sym (one_month_more l 12) ∙ whole_year l in
          omega (arith, one_year_more d.year, none_before_january (leap (suc d.year)), months)

      by_day : (b : Bool) → nat_lt d.day most ≡ b
          → number_of
          (cond b (date d.year d.month (suc d.day)) (cond (nat_lt d.month 12) (date d.year (suc d.month) 1) (date (suc d.year) 1 1)))
          ≡ number_of d + 1
      by_day true e = omega arith
      by_day false e = by_month (nat_lt d.month 12) refl (omega (arith, ltb-false d.day most e, v.to))

  pub next_is_a_date : Valid (next d)
  unfolding next
  next_is_a_date = by_day (nat_lt d.day most) refl
    where
      by_month : (b : Bool) → nat_lt d.month 12 ≡ b → Valid (cond b (date d.year (suc d.month) 1) (date (suc d.year) 1 1))
      by_month true e = record { from = omega arith; to = first_day_lem l d.month (ltb-true d.month 12 e) }
      by_month false e = record { from = omega arith; to = first_day_lem (leap (suc d.year)) 0 (omega arith) }

      by_day : (b : Bool) → nat_lt d.day most ≡ b
          → Valid (cond b (date d.year d.month (suc d.day)) (cond (nat_lt d.month 12) (date d.year (suc d.month) 1) (date (suc d.year) 1 1)))
      by_day true e = record { from = omega arith; to = ltb-true d.day most e }
      by_day false e = by_month (nat_lt d.month 12) refl
