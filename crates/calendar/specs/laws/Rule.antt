-- The rule as the code goes: its tests, one after the other.
use Rattle.std.specs.Prelude.{◌≡◌, ℕ, ◌<◌, ◌≤◌}
use borrow.Author.Tests.{le-leb, lt-leb, eq-eqb, ne_eqb}
use Rattle.calendar.specs.declared.Date.{Date}
use Rattle.calendar.specs.rules.Date.{leap, month_length}
use Rattle.calendar.specs.rules.Number.{number_of, is, no_month, no_day, number_rule}

module _ (d : Date) (n : ℕ) (e : n ≡ month_length (leap d.year) d.month) where
  pub no_month_lem : n ≡ 0 → no_month ≡ number_rule d
  unfolding number_rule
  no_month_lem z = rw (← e, eq-eqb n 0 z)

  module _ (some : n ≡ 0 → ⊥) where
    pub day_zero : d.day ≡ 0 → no_day ≡ number_rule d
    unfolding number_rule
    day_zero z = rw (← e, ne_eqb n 0 some, eq-eqb d.day 0 z)

    module _ (from : d.day ≡ 0 → ⊥) where
      pub past_month : n < d.day → no_day ≡ number_rule d
      unfolding number_rule
      past_month h = rw (← e, ne_eqb n 0 some, ne_eqb d.day 0 from, lt-leb d.day n h)

      pub numbered : d.day ≤ n → (k : ℕ) → k ≡ number_of d → is k ≡ number_rule d
      unfolding number_rule
      numbered h k f = rw (← e, ← f, ne_eqb n 0 some, ne_eqb d.day 0 from, le-leb d.day n h)
