-- Stars that a list can hold, with yearly changes or without, and a radio list that is the spelling of its stars. Without them a star has
-- its first three numbers alone, and stands still.
use Rattle.std.specs.Prelude.{ℕ, ◌≤◌, ◌≡◌, Bool, true, false, List, [], ◌∷◌, ◌++◌, length}
use Rattle.list.specs.declared.Star.{Star}
use Rattle.list.specs.rules.Record.{in_range, Fitting}
use Rattle.list.specs.rules.Stars.{most_stars}
use Rattle.list.specs.notions.Still.{Still}
use Rattle.list_groups.specs.rules.Groups.{groups}
use Rattle.list_groups.specs.rules.Several.{spell_all}
use Rattle.list_groups.specs.rules.Fold.{folded}
use Rattle.list_groups.specs.notions.Spelt.{AllGood}
use Rattle.list_radio.specs.rules.Star.{numbers_of}
use Rattle.list_radio.specs.rules.Radio.{mark}

-- ---- a star

abbrev pub Held : Bool → Star → Type 0
Held true r = Unit {0}
Held false r = Still r

abbrev pub InRange : Star → Type 0
InRange r = in_range r ≡ true

-- its fields have words, it is in range, and its numbers say all of it
pub record Good (moving : Bool) (r : Star) : Type 0 where
  pub fitting : Fitting r
  pub range : InRange r
  pub held : Held moving r

abbrev pub form_numbers : Bool → Star → List ℕ
form_numbers true r = numbers_of r
form_numbers false r = r.number ∷ r.asc ∷ folded r.dec ∷ []

abbrev pub form_groups : Bool → Star → List ℕ
form_groups moving r = spell_all groups (form_numbers moving r)

-- ---- a list

unfoldable pub form_bytes : Bool → List Star → List ℕ
form_bytes moving rs = mark moving ∷ (groups (length rs) ++ spell_all (form_groups moving) rs)

pub record Radio (moving : Bool) (s : List ℕ) (rs : List Star) : Type 0 where
  pub bytes : s ≡ form_bytes moving rs
  pub good : AllGood (Good moving) rs
  pub most : length rs ≤ most_stars
