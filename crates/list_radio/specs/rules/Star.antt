-- A star over the radio link: its number, right ascension, folded declination and both yearly changes folded, each in groups of seven bits.
-- Under byte 2 it has the first three alone, and its yearly changes are 0.
use Rattle.std.specs.Prelude.{ℕ, Bool, true, false, cond, List, [], ◌∷◌, get_or}
use Rattle.quantity.specs.rules.Answer.{Answer, answered, refused, then}
use Rattle.list.specs.declared.Star.{Star}
use Rattle.list.specs.rules.Record.{in_range}
use Rattle.list_groups.specs.rules.Groups.{groups}
use Rattle.list_groups.specs.rules.Reading.{Got, read_number}
use Rattle.list_groups.specs.rules.Several.{spell_all, read_all}
use Rattle.list_groups.specs.rules.Fold.{folded, unfolded}

-- numbers of a star, with yearly changes or without
abbrev pub number_count : Bool → ℕ
number_count true = 5
number_count false = 3

abbrev pub numbers_of : Star → List ℕ
numbers_of r = r.number ∷ r.asc ∷ folded r.dec ∷ folded r.asc_rate ∷ folded r.dec_rate ∷ []

-- a number that is not there is 0
abbrev pub star_of : List ℕ → Star
star_of ns =
    record {
      number = get_or ns 0 0;
      asc = get_or ns 1 0;
      dec = unfolded (get_or ns 2 0);
      asc_rate = unfolded (get_or ns 3 0);
      dec_rate = unfolded (get_or ns 4 0);
    }

unfoldable pub star_groups : Star → List ℕ
star_groups r = spell_all groups (numbers_of r)

-- 9 for a star out of range, after its last number
abbrev pub ranged : Got (List ℕ) → Answer (Got Star)
ranged g = cond (in_range (star_of g.value)) (answered (record { value = star_of g.value; rest = g.rest })) (refused 9)

unfoldable pub read_star : Bool → List ℕ → Answer (Got Star)
unfolding then
read_star moving bs = then (read_all read_number (number_count moving) bs) ranged
