-- All sights of a text, in their order, each with the number of its line from 1 on, up to the first line that cannot be read; and what a
-- text gives into slices that are lent for its sights.
use Rattle.std.specs.Prelude.{ℕ, List, Result}
use Rattle.double.specs.rules.Pattern.{pattern_of}
use Rattle.quantity.specs.declared.Deg.{Deg}
use Rattle.helpers.specs.rules.Angle.{radians_of}
use Rattle.text_fields.specs.declared.Stopped.{Stopped}
use Rattle.text_fields.specs.rules.Walk.{Ending, entries_in, ending_in}
use Rattle.text_fields.specs.rules.Stored.{Columns, stored_rule, EntriesStored}
use Rattle.text_measured.specs.declared.Sight.{Sight}
use Rattle.text_measured.specs.rules.Sight.{sight_rule}

-- a star's number, its right ascension and its declination, and the line that says so
pub record Entry : Type 0 where
  pub number : ℕ
  pub asc : Deg
  pub dec : Deg
  pub line : ℕ

abbrev pub entry_of : Sight → ℕ → Entry
entry_of s line = record { number = s.number; asc = s.asc; dec = s.dec; line = line }

abbrev pub entries_of : List ℕ → List Entry
entries_of = entries_in sight_rule entry_of

abbrev pub ending_of : List ℕ → Ending
ending_of = ending_in sight_rule

-- ---- into slices with so many places

-- in radians, as bits
abbrev pub asc_bits : Entry → ℕ
asc_bits e = pattern_of (radians_of e.asc).0

abbrev pub dec_bits : Entry → ℕ
dec_bits e = pattern_of (radians_of e.dec).0

abbrev pub columns : Columns Entry
columns = record { line = λ (e : Entry). e.line; star = λ (e : Entry). e.number; first = asc_bits; second = dec_bits }

abbrev pub sights_rule : ℕ → List ℕ → Result ℕ Stopped
sights_rule = stored_rule sight_rule entry_of

-- text, four slices, the answer, and what it leaves in them
abbrev pub ReadSights : ℕ → List ℕ → List ℕ → List ℕ → List ℕ → List ℕ → Result ℕ Stopped → List ℕ → List ℕ → List ℕ → List ℕ → Type 0
ReadSights = EntriesStored sight_rule entry_of columns
