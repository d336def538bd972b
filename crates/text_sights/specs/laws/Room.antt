-- Each text has room in so many bytes a sight, and those of the sheet.
use Rattle.std.specs.Prelude.{ℕ, ◌+◌, ◌*◌, ◌≤◌, eqb, length, get_or}
use mathlib.Core.List.{List, []}
use Rattle.std.proofs.Common.{arith}
use Rattle.std.proofs.Math.ListN.{length-append}
use Rattle.lent.specs.laws.Texts.{texts_short}
use Rattle.residual_sheet.specs.declared.Sheet.{Sheet}
use Rattle.text_refusal.specs.laws.Room.{either_short}
use Rattle.text_residuals.specs.laws.Room.{sight_short, refused_sight_short, sheet_short, left_short}
use Rattle.text_residuals.specs.rules.Sheet.{sheet_text}
use Rattle.text_sights.specs.rules.Sights.{sight_at, sights_text, left_at, lefts_text, place_at, people_text}

wider : {n : ℕ} → n ≤ 86 → n ≤ 177
wider h = omega (arith, h)

module _ (line star status asc dec measuredAsc measuredDec : List ℕ) where
  pub sights_short : length (sights_text line star status asc dec measuredAsc measuredDec) ≤ 177 * length line
  unfolding sight_at
  sights_short =
      texts_short 177 (length line) (sight_at line star status asc dec measuredAsc measuredDec)
      (λ (i : ℕ) h. either_short 177 (eqb (get_or status i 0) 0) _ _ (wider (sight_short (get_or line i 0) (get_or star i 0) _ _)) (wider (refused_sight_short (get_or line i 0) (get_or star i 0) (get_or status i 0))))

  pub lefts_short : length (lefts_text line star status) ≤ 177 * length line
  unfolding left_at
  lefts_short =
      texts_short 177 (length line) (left_at line star status)
      (λ (i : ℕ) h. either_short 177 (eqb (get_or status i 0) 0) [] _ (omega arith) (left_short (get_or line i 0) (get_or star i 0) (get_or status i 0)))

  -- both sheets, and who is in neither
  pub people_short : (a d : Sheet) → length (people_text a d line star status) ≤ 644 + 177 * length line
  unfolding people_text
  people_short a d =
      let sheets = sheet_text a (place_at line star a.place) d (place_at line star d.place) in
      omega (arith, length-append sheets (lefts_text line star status), sheet_short a (place_at line star a.place) d (place_at line star d.place), lefts_short)
