-- All sights of a text, in their order, each with the number of its line from 1 on, up to the first line that cannot be read; and how the
-- reading ends.
use Rattle.std.specs.Prelude.{ℕ, List, ℤ, Float}
use Rattle.quantity.specs.declared.Deg.{Deg}
use Rattle.text_fields.specs.rules.Walk.{Ending, entries_in, ending_in}
use Rattle.text_night.specs.declared.Sight.{Sight}
use Rattle.text_night.specs.rules.Sight.{sight_rule}

-- the day, the star's number, the two readings, and the line that says so
pub record Entry : Type 0 where
  pub day : Float
  pub number : ℕ
  pub star : Deg
  pub mark : Deg
  pub line : ℕ

abbrev pub entry_of : Sight → ℕ → Entry
entry_of s line = record { day = s.day; number = s.number; star = s.star; mark = s.mark; line = line }

abbrev pub entries_of : ℤ → List ℕ → List Entry
entries_of dut1 = entries_in (sight_rule dut1) entry_of

abbrev pub ending_of : ℤ → List ℕ → Ending
ending_of dut1 = ending_in (sight_rule dut1)
