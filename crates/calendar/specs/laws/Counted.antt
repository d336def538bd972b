-- Each number from that of the first date on is a date's, and each date from the year 0 on is met by going to the next.
use Rattle.std.specs.Prelude.{◌≡◌, ℕ, zero, suc, ◌+◌, ◌-◌, ◌≤◌, refl}
use Rattle.std.proofs.Common.{◌∙◌, arith}
use Rattle.calendar.specs.declared.Date.{Date}
use Rattle.calendar.specs.rules.Date.{date, leap, month_length, Valid, total, days_before, days_before_year}
use Rattle.calendar.specs.rules.Number.{number_of}
use Rattle.calendar.specs.notions.Counted.{date_after}
use Rattle.calendar.specs.laws.Next.{next_is_one_more, next_is_a_date}
use Rattle.calendar.specs.laws.Distinct.{one_date}

pub after_is_a_date : (k : ℕ) → Valid (date_after k)
unfolding date_after month_length
after_is_a_date zero = record { from = omega arith; to = omega arith }
after_is_a_date (suc k) = next_is_a_date (date_after k) (after_is_a_date k)

first_number_lem : number_of (date 0 1 1) ≡ 1721060
unfolding number_of leap month_length total days_before days_before_year
first_number_lem = refl

pub after_has_number : (k : ℕ) → number_of (date_after k) ≡ 1721060 + k
unfolding date_after
after_has_number zero = first_number_lem
after_has_number (suc k) = next_is_one_more (date_after k) (after_is_a_date k) ∙ omega (arith, after_has_number k)

not_before_first : (d : Date) → Valid d → 1721060 ≤ number_of d
unfolding number_of
not_before_first d v = omega (arith, v.from)

-- each date is one of them
pub every_date_is_met : (d : Date) → Valid d → d ≡ date_after (number_of d - 1721060)
every_date_is_met d v =
    let k = number_of d - 1721060 in
    let same : number_of d ≡ number_of (date_after k) = omega (arith, not_before_first d v, after_has_number k) in
    one_date d (date_after k) v (after_is_a_date k) same
