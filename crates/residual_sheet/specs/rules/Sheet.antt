-- The sheet of one coordinate, over the whole list of its entries.
use Rattle.std.specs.Prelude.{ℕ, suc, ◌+◌, ◌*◌, min, max, Bool, false, cond, List, [], ◌∷◌, eqb, ltb, ℤ, pos, ◌+ℤ◌, length}
use Rattle.residual_sheet.specs.declared.Residual.{Residual}
use Rattle.residual_sheet.specs.rules.Residual.{whole_of}
use Rattle.residual_sheet.specs.declared.Sheet.{Sheet}
use Rattle.residual_sheet.specs.rules.Entry.{Entry, other, aside, taken}

-- the residuals that are taken in, in their order
abbrev pub taken_in : List Entry → List Residual
taken_in [] = []
taken_in (other ∷ es) = taken_in es
taken_in (aside ∷ es) = taken_in es
taken_in (taken x ∷ es) = x ∷ taken_in es

-- how many are set aside
abbrev pub aside_of : List Entry → ℕ
aside_of [] = 0
aside_of (other ∷ es) = aside_of es
aside_of (aside ∷ es) = suc (aside_of es)
aside_of (taken x ∷ es) = aside_of es

-- the exact sum
abbrev pub sum_of : List Residual → ℤ
sum_of [] = pos 0
sum_of (x ∷ xs) = whole_of x +ℤ sum_of xs

-- the exact sum of squares
abbrev pub squares_of : List Residual → ℕ
squares_of [] = 0
squares_of (x ∷ xs) = x.size * x.size + squares_of xs

-- the largest size, 0 if none
abbrev pub largest_of : List Residual → ℕ
largest_of [] = 0
largest_of (x ∷ xs) = max x.size (largest_of xs)

-- the first place where a residual of size n is taken in
abbrev pub has_size : ℕ → Entry → Bool
has_size n other = false
has_size n aside = false
has_size n (taken x) = eqb x.size n

abbrev pub first_place : ℕ → List Entry → ℕ
first_place n [] = 0
first_place n (e ∷ es) = cond (has_size n e) 0 (suc (first_place n es))

-- that of the largest, 0 if none
abbrev pub place_of : List Entry → ℕ
place_of es = cond (eqb (length (taken_in es)) 0) 0 (first_place (largest_of (taken_in es)) es)

-- the six figures
pub record Figures : Type 0 where
  pub count : ℕ
  pub sum : ℤ
  pub squares : ℕ
  pub largest : ℕ
  pub place : ℕ
  pub aside : ℕ

unfoldable pub figures_of : List Entry → Figures
figures_of es =
    record {
      count = length (taken_in es);
      sum = sum_of (taken_in es);
      squares = squares_of (taken_in es);
      largest = largest_of (taken_in es);
      place = place_of es;
      aside = aside_of es;
    }

-- as numbers that bear a sign
unfoldable pub sheet_of : Figures → Sheet
sheet_of f =
    record {
      count = pos f.count;
      sum = f.sum;
      squares = pos f.squares;
      largest = pos f.largest;
      place = pos f.place;
      aside = pos f.aside;
    }

-- ---- two sheets as one

-- a sheet whose entries come after n others
unfoldable pub moved_on : ℕ → Figures → Figures
moved_on n f =
    record {
      count = f.count;
      sum = f.sum;
      squares = f.squares;
      largest = f.largest;
      place = cond (eqb f.count 0) 0 (n + f.place);
      aside = f.aside;
    }

-- the place of the larger; of two that are alike the lower one; a sheet with nothing taken in has none
abbrev pub merged_place : Figures → Figures → ℕ
merged_place f g =
    cond (eqb f.count 0) g.place
    (cond (eqb g.count 0) f.place
    (cond (ltb g.largest f.largest) f.place
    (cond (ltb f.largest g.largest) g.place (min f.place g.place))))

unfoldable pub merged : Figures → Figures → Figures
merged f g =
    record {
      count = f.count + g.count;
      sum = f.sum +ℤ g.sum;
      squares = f.squares + g.squares;
      largest = max f.largest g.largest;
      place = merged_place f g;
      aside = f.aside + g.aside;
    }
