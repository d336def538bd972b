-- A reading as one number, by which `apart` tells two of them apart.
use Rattle.std.specs.Prelude.{ℕ, suc, ◌+◌, ◌*◌, Float}
use Rattle.std.specs.Float.{binary64}
use Rattle.std.specs.Float.Ieee.{to_bits}
use Rattle.text_date.specs.rules.Date.{Reading, is, none}
use Rattle.text_date.specs.rules.Time.{Time, on}

abbrev pub of_time : Reading Time → ℕ
of_time (is (on n t)) = suc (86400000 * n + t)
of_time (none k) = 0

abbrev pub of_moment : Reading Float → ℕ
of_moment (is x) = suc (to_bits binary64 x)
of_moment (none k) = 0
