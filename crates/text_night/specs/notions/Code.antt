-- What a line says as one number, by which `apart` tells two of them apart.
use Rattle.std.specs.Prelude.{ℕ, suc, List, [], ◌∷◌}
use Rattle.quantity.specs.notions.Code.{of_deg, of_float}
use Rattle.text_fields.specs.rules.Walk.{Told, told, nothing, unclear}
use Rattle.text_night.specs.declared.Sight.{Sight}
use Rattle.text_night.specs.rules.Sights.{Entry}

-- by a number of its sight
abbrev pub of_told : (Sight → ℕ) → Told Sight → ℕ
of_told code (told s) = suc (suc (code s))
of_told code nothing = 0
of_told code unclear = 1

abbrev pub of_day : Sight → ℕ
of_day s = of_float s.day

abbrev pub of_number : Sight → ℕ
of_number s = s.number

abbrev pub of_star : Sight → ℕ
of_star s = of_deg s.star

-- entries by their first line
abbrev pub of_entries : List Entry → ℕ
of_entries [] = 0
of_entries (e ∷ es) = suc e.line
