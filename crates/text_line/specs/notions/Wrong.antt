-- A wrong variant of a star's line.
use Rattle.std.specs.Prelude.{ℕ, cond, List, ◌∷◌, ◌++◌, eqb}
use Rattle.quantity.specs.declared.Rad.{Rad}
use Rattle.text_number.specs.rules.Bytes.{space}
use Rattle.text_number.specs.rules.Number.{decimal_text}
use Rattle.text_number.specs.rules.Refused.{refused_text}
use Rattle.text_line.specs.rules.Line.{angles_text}

-- angles where the status is 9
abbrev pub refused_star_as_good : ℕ → ℕ → Rad → Rad → List ℕ
refused_star_as_good number status asc dec =
    decimal_text number ++ (space ∷ cond (eqb status 9) (angles_text asc dec) (refused_text status))
