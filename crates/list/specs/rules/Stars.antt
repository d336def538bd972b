-- A stored list as the list of its stars: star i is the record at the i-th offset.
use Rattle.std.specs.Prelude.{ℕ, ◌*◌, ◌/◌, ◌%◌, ◌<◌, Bool, true, cond, not, ◌&&◌, List, [], ◌∷◌, ◌++◌, eqb, leb, pos, length, get_or}
use Rattle.lent.specs.rules.Rows.{upto}
use Rattle.list.specs.rules.Record.{width, star_at, in_range, star_bytes, Fitting}
use Rattle.list.specs.declared.Star.{Star}

-- stars of a list, at most
abbrev pub most_stars : ℕ
most_stars = 3000

-- whole records, and no more of them than that
unfoldable pub is_list : List ℕ → Bool
is_list s = leb (length s) (width * most_stars) && eqb (length s % width) 0

unfoldable pub count_of : List ℕ → ℕ
count_of s = length s / width

-- so many records of one width, each read from its offset on
abbrev pub records_at : ℕ → (List ℕ → ℕ → Star) → ℕ → List ℕ → List Star
records_at size at n s = upto n (λ (i : ℕ). at s (i * size))

-- every star of the list, in range or not
unfoldable pub stars : List ℕ → List Star
stars s = records_at width star_at (count_of s) s

-- each of them is so
abbrev pub all_are : (Star → Bool) → List Star → Bool
all_are is [] = true
all_are is (r ∷ rs) = is r && all_are is rs

abbrev pub all_in_range : List Star → Bool
all_in_range rs = all_are in_range rs

-- number 0 is an empty place, whatever stands behind it; every other star is kept
abbrev pub is_kept : Star → Bool
is_kept r = not (eqb r.number 0)

abbrev pub kept : List Star → List Star
kept [] = []
kept (r ∷ rs) = cond (is_kept r) (r ∷ kept rs) (kept rs)

-- the star of a record of zeros, which stands past the last one
abbrev pub nought : Star
nought = record { number = 0; asc = 0; dec = pos 0; asc_rate = pos 0; dec_rate = pos 0 }

abbrev pub nth : List ℕ → ℕ → Star
nth s i = get_or (stars s) i nought

-- records written one after the other, and a list
abbrev pub records_bytes : (Star → List ℕ) → List Star → List ℕ
records_bytes bytes [] = []
records_bytes bytes (r ∷ rs) = bytes r ++ records_bytes bytes rs

abbrev pub list_bytes : List Star → List ℕ
list_bytes rs = records_bytes star_bytes rs

abbrev pub AllHold : (Star → Type 0) → List Star → Type 0
AllHold Holds [] = Unit {0}
AllHold Holds (r ∷ rs) = Holds r × AllHold Holds rs

abbrev pub AllFitting : List Star → Type 0
AllFitting rs = AllHold Fitting rs

-- each is a byte
abbrev pub Bytes : List ℕ → Type 0
Bytes s = (i : ℕ) → get_or s i 0 < 256
