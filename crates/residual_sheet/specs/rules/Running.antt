-- How a sheet is done: figures that grow entry by entry, the sum in two parts, of what is not below zero and of what is.
use Rattle.std.specs.Prelude.{ℕ, ◌+◌, ◌*◌, ◌≤◌, max, cond, List, [], ◌∷◌, eqb, ltb, pos, ◌-ℤ◌, length}
use Rattle.list.specs.rules.Stars.{most_stars}
use Rattle.residual_sheet.specs.declared.Residual.{Residual}
use Rattle.residual_sheet.specs.rules.Residual.{farthest_taken}
use Rattle.residual_sheet.specs.declared.Running.{Running}
use Rattle.residual_sheet.specs.declared.Sheet.{Sheet}
use Rattle.residual_sheet.specs.rules.Entry.{Entry, other, aside, taken}
use Rattle.residual_sheet.specs.rules.Sheet.{taken_in, aside_of, squares_of, largest_of, place_of}

abbrev pub above : Residual → ℕ
above x = cond x.minus 0 x.size

abbrev pub below : Residual → ℕ
below x = cond x.minus x.size 0

abbrev pub above_of : List Residual → ℕ
above_of [] = 0
above_of (x ∷ xs) = above x + above_of xs

abbrev pub below_of : List Residual → ℕ
below_of [] = 0
below_of (x ∷ xs) = below x + below_of xs

unfoldable pub running_of : List Entry → Running
running_of es =
    record {
      count = length (taken_in es);
      above = above_of (taken_in es);
      below = below_of (taken_in es);
      squares = squares_of (taken_in es);
      largest = largest_of (taken_in es);
      place = place_of es;
      aside = aside_of es;
    }

-- the place after a residual of a size at place i is taken in
abbrev pub place_after : ℕ → ℕ → ℕ → ℕ → ℕ → ℕ
place_after count largest place n i = cond (eqb count 0) i (cond (ltb largest n) i place)

-- the figures after an entry at place i
abbrev pub onward : Running → ℕ → Entry → Running
onward r i other = r
onward r i aside =
    record {
      count = r.count;
      above = r.above;
      below = r.below;
      squares = r.squares;
      largest = r.largest;
      place = r.place;
      aside = r.aside + 1;
    }
onward r i (taken x) =
    record {
      count = r.count + 1;
      above = r.above + above x;
      below = r.below + below x;
      squares = r.squares + x.size * x.size;
      largest = max r.largest x.size;
      place = place_after r.count r.largest r.place x.size i;
      aside = r.aside;
    }

-- what so many entries come to at most
pub record AtMost (n : ℕ) (r : Running) : Type 0 where
  pub few : n ≤ most_stars
  pub counted : r.count + r.aside ≤ n
  pub sizes : r.above + r.below ≤ r.count * farthest_taken
  pub squared : r.squares ≤ r.count * (farthest_taken * farthest_taken)
  pub large : r.largest ≤ farthest_taken
  pub placed : r.place ≤ n

-- the two parts of the sum as one number
unfoldable pub sheet_from : Running → Sheet
sheet_from r =
    record {
      count = pos r.count;
      sum = pos r.above -ℤ pos r.below;
      squares = pos r.squares;
      largest = pos r.largest;
      place = pos r.place;
      aside = pos r.aside;
    }
