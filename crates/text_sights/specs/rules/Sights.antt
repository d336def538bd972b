-- The text of a night's sights, which are lent by their lines, stars, statuses, computed and measured angles.
use Rattle.std.specs.Prelude.{ℕ, true, false, cond, List, [], ◌++◌, eqb, ℤ, nat_abs, length, get_or}
use Rattle.double.specs.rules.Operations.{bits}
use Rattle.quantity.specs.declared.Rad.{Rad}
use Rattle.quantity.specs.rules.Angle.{rad}
use Rattle.lent.specs.rules.Texts.{texts}
use Rattle.residual_sheet.specs.rules.Residual.{residual_of}
use Rattle.residual_sheet.specs.declared.Sheet.{Sheet}
use Rattle.text_residuals.specs.declared.Place.{Place}
use Rattle.text_residuals.specs.rules.Figures.{sight_text, refused_sight_text}
use Rattle.text_residuals.specs.rules.Sheet.{sheet_text, left_text}

-- angle i of a slice of radians, each as its bits
abbrev pub angle_at : List ℕ → ℕ → Rad
angle_at s i = rad (bits (get_or s i 0))

-- sight i among all: its residuals, or its refusal
unfoldable pub sight_at : List ℕ → List ℕ → List ℕ → List ℕ → List ℕ → List ℕ → List ℕ → ℕ → List ℕ
sight_at line star status asc dec measuredAsc measuredDec i =
    cond (eqb (get_or status i 0) 0)
    (sight_text (get_or line i 0) (get_or star i 0) (residual_of true (angle_at asc i) (angle_at measuredAsc i))
    (residual_of false (angle_at dec i) (angle_at measuredDec i)))
    (refused_sight_text (get_or line i 0) (get_or star i 0) (get_or status i 0))

abbrev pub sights_text : List ℕ → List ℕ → List ℕ → List ℕ → List ℕ → List ℕ → List ℕ → List ℕ
sights_text line star status asc dec measuredAsc measuredDec = texts (length line) (sight_at line star status asc dec measuredAsc measuredDec)

-- sight i among those that are left out: why, or nothing
unfoldable pub left_at : List ℕ → List ℕ → List ℕ → ℕ → List ℕ
left_at line star status i = cond (eqb (get_or status i 0) 0) [] (left_text (get_or line i 0) (get_or star i 0) (get_or status i 0))

abbrev pub lefts_text : List ℕ → List ℕ → List ℕ → List ℕ
lefts_text line star status = texts (length line) (left_at line star status)

-- ---- all of them

-- the line and the star at a place
abbrev pub place_at : List ℕ → List ℕ → ℤ → Place
place_at line star z = record { line = get_or line (nat_abs z) 0; star = get_or star (nat_abs z) 0 }

-- both sheets for people, and who is in neither
unfoldable pub people_text : Sheet → Sheet → List ℕ → List ℕ → List ℕ → List ℕ
people_text asc dec line star status =
    sheet_text asc (place_at line star asc.place) dec (place_at line star dec.place) ++ lefts_text line star status
