-- Two dates of one day number are one date.
use Rattle.std.specs.Prelude.{◌≡◌, ℕ, zero, suc, ◌+◌, ◌<◌, ◌≤◌, Bool, true, false, ◌==◌, refl}
use Rattle.std.proofs.Common.{subst, sym, ap, ◌∙◌, arith, eqb-true}
use Rattle.std.proofs.lemmas.Bool.{eqb-false}
use Rattle.calendar.specs.declared.Date.{Date}
use Rattle.calendar.specs.rules.Date.{date, leap, month_length, year_length, Valid, total, days_before, days_before_year}
use Rattle.calendar.specs.rules.Number.{number_of}
use Rattle.calendar.specs.laws.Closed.{no_month_past}
use Rattle.calendar.specs.laws.Next.{whole_year}

-- a count holds what was counted before
total_holds : (f : ℕ → ℕ) (a b : ℕ) → a < b → total f a + f a ≤ total f b
unfolding total
total_holds f a zero h = absurd (omega arith)
total_holds f a (suc b) h = by_case (a == b) refl (λ k. total_holds f a b k)
  where
    by_case : (t : Bool) → (a == b) ≡ t → (a < b → total f a + f a ≤ total f b) → total f a + f a ≤ total f b + f b
    by_case true e below = subst (λ (k : ℕ). total f a + f a ≤ total f k + f k) (eqb-true a b e) (omega arith)
    by_case false e below =
        let apart = eqb-false a b e in
        let before = below (omega arith) in
        omega arith

years_hold : (a b : ℕ) → a < b → days_before_year a + year_length (leap a) ≤ days_before_year b
unfolding days_before_year
years_hold a b h = total_holds (λ (y : ℕ). year_length (leap y)) a b h

months_hold : (l : Bool) (a b : ℕ) → a < b → days_before l a + month_length l a ≤ days_before l b
unfolding days_before
months_hold l a b h = total_holds (month_length l) a b h

pub before_most : (l : Bool) (m : ℕ) → m ≤ 12 → days_before l m ≤ 366
before_most l m h = by_case l (omega (arith, months_hold l m 13 (omega arith), whole_year l))
  where
    by_case : (l : Bool) → days_before l m ≤ year_length l → days_before l m ≤ 366
    by_case true e = e
    by_case false e = omega arith

-- the day of the year is at most the year's length
in_year : (d : Date) → Valid d → days_before (leap d.year) d.month + d.day ≤ year_length (leap d.year)
in_year d v =
    let l = leap d.year in
    let inside : d.month < 13 = omega (arith, no_month_past l d.month (omega (arith, v.from, v.to))) in
    omega (arith, months_hold l d.month 13 inside, whole_year l, v.to)

year_first : (d e : Date) → Valid d → Valid e → d.year < e.year → number_of d < number_of e
unfolding number_of
year_first d e v w h = omega (arith, in_year d v, years_hold d.year e.year h, w.from)

month_first : (d e : Date) → Valid d → Valid e → d.year ≡ e.year → d.month < e.month → number_of d < number_of e
unfolding number_of
month_first d e v w y h =
    let months = months_hold (leap d.year) d.month e.month h in
    let years = ap days_before_year y in
    let before : days_before (leap d.year) e.month ≡ days_before (leap e.year) e.month = ap (λ (n : ℕ). days_before (leap n) e.month) y in
    omega (arith, months, years, before, v.to, w.from)

day_of_lem : (d e : Date) → d.year ≡ e.year → d.month ≡ e.month → number_of d ≡ number_of e → d.day ≡ e.day
unfolding number_of
day_of_lem d e year month same =
    let years = ap days_before_year year in
    let months : days_before (leap d.year) d.month ≡ days_before (leap e.year) e.month =
    ap (λ (n : ℕ). days_before (leap n) d.month) year ∙ ap (days_before (leap e.year)) month in
    omega arith

-- the earlier date has the lesser number
pub one_date : (d e : Date) → Valid d → Valid e → number_of d ≡ number_of e → d ≡ e
one_date d e v w same =
    let y1 : d.year < e.year → ⊥ = λ h. (let a = year_first d e v w h in omega arith) in
    let y2 : e.year < d.year → ⊥ = λ h. (let a = year_first e d w v h in omega arith) in
    let year : d.year ≡ e.year = omega arith in
    let m1 : d.month < e.month → ⊥ = λ h. (let a = month_first d e v w year h in omega arith) in
    let m2 : e.month < d.month → ⊥ = λ h. (let a = month_first e d w v (sym year) h in omega arith) in
    let month : d.month ≡ e.month = omega arith in
    let day : d.day ≡ e.day = day_of_lem d e year month same in
    ap (λ (n : ℕ). date n d.month d.day) year ∙ ap (λ (n : ℕ). date e.year n d.day) month ∙ ap (λ (n : ℕ). date e.year e.month n) day
