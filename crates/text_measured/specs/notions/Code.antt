-- What a line says as one number, by which `apart` tells two of them apart.
use Rattle.std.specs.Prelude.{ℕ, ◌+◌}
use Rattle.quantity.specs.notions.Code.{of_deg}
use Rattle.text_fields.specs.rules.Walk.{Told, told, nothing, unclear}
use Rattle.text_measured.specs.declared.Sight.{Sight}

abbrev pub of_told : Told Sight → ℕ
of_told (told s) = 2 + s.number
of_told nothing = 0
of_told unclear = 1

-- its right ascension
abbrev pub of_asc : Told Sight → ℕ
of_asc (told s) = of_deg s.asc
of_asc nothing = 0
of_asc unclear = 0
