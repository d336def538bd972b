-- Day numbers of stated dates: 2000-01-01 at 0h is the Julian day 2451544.5.
use Rattle.std.specs.Prelude.{◌≡◌, ℕ, ◌+◌, refl}
use Rattle.std.proofs.Common.{ap, ◌∙◌}
use Rattle.calendar.specs.rules.Date.{date, leap, days_before, days_before_year, month_length, total}
use Rattle.calendar.specs.rules.Number.{number_of}
use Rattle.calendar.specs.laws.Closed.{year_by_lem}

counted : (y m d : ℕ) → number_of (date y m d) ≡ 1721059 + days_before_year y + days_before (leap y) m + d
unfolding number_of
counted y m d = refl

pub number_2000_01_01 : number_of (date 2000 1 1) ≡ 2451545
unfolding leap days_before total month_length
number_2000_01_01 = counted 2000 1 1 ∙ ap (λ (n : ℕ). 1721059 + n + days_before (leap 2000) 1 + 1) (year_by_lem 2000)

pub number_1582_10_15 : number_of (date 1582 10 15) ≡ 2299161
unfolding leap days_before total month_length
number_1582_10_15 = counted 1582 10 15 ∙ ap (λ (n : ℕ). 1721059 + n + days_before (leap 1582) 10 + 15) (year_by_lem 1582)

-- Meeus, chapter 7
pub number_1987_06_19 : number_of (date 1987 6 19) ≡ 2446966
unfolding leap days_before total month_length
number_1987_06_19 = counted 1987 6 19 ∙ ap (λ (n : ℕ). 1721059 + n + days_before (leap 1987) 6 + 19) (year_by_lem 1987)
