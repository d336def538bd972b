-- A day number's answer as one number, by which `apart` tells two of them apart.
use Rattle.std.specs.Prelude.{ℕ, suc}
use Rattle.calendar.specs.rules.Number.{Numbered, is, no_month, no_day}

abbrev pub of_numbered : Numbered → ℕ
of_numbered (is n) = suc (suc n)
of_numbered no_month = 0
of_numbered no_day = 1
