-- The sheet of any bytes has room in `room` bytes.
use Rattle.std.specs.Prelude.{◌≡◌, Bool, cond, List, [], ◌∷◌, ◌++◌, ℕ, ◌*◌, ◌-◌, ◌≤◌, ◌<◌, ℤ, pos, negsuc, nat_abs}
use Rattle.std.proofs.Math.Path.{refl}
use Rattle.std.proofs.Math.Bool.{true, false}
use Rattle.std.proofs.Common.{arith}
use Rattle.std.proofs.Math.ListN.{length, length-append}
use Rattle.signed.specs.rules.Signed.{HasWord}
use Rattle.list.specs.rules.Record.{in_range, Fitting}
use Rattle.list.specs.rules.Stars.{most_stars, is_list, stars, is_kept, kept, AllFitting, Bytes}
use Rattle.list.specs.laws.Stars.{few, length_stars}
use Rattle.list.specs.declared.Star.{Star}
use Rattle.list_edit.specs.laws.Gather.{fewer_kept}
use Rattle.list_edit.specs.laws.Fitting.{list_fits}
use Rattle.text_number.specs.rules.Number.{decimal_text}
use Rattle.text_number.specs.rules.Refused.{refused_text}
use Rattle.text_number.specs.laws.Number.{decimal_short, integer_short, refused_short}
use Rattle.text_sheet.specs.rules.Sheet.{ok_end, bad_end, place_text, rates_text, line, lines, goods, heading, footing, sheet_in, sheet_of}
use Rattle.text_sheet.specs.rules.Render.{room}
use Rattle.text_sheet.specs.laws.Sheet.{goods_most}

small : (z : ℤ) → HasWord z → nat_abs z < 4294967296
small (pos n) h = omega arith
small (negsuc n) h = omega arith

place_short : (r : Star) → Fitting r → length (place_text r) ≤ 23
unfolding place_text
place_short r f =
    let a = decimal_short r.asc f.asc in
    let d = integer_short r.dec (small r.dec f.dec) in
    simp length-append (omega arith)

rates_short : (rates : Bool) (r : Star) → Fitting r → length (rates_text rates r) ≤ 24
unfolding rates_text
rates_short false r f = omega arith
rates_short true r f =
    let a = integer_short r.asc_rate (small r.asc_rate f.asc_rate) in
    let d = integer_short r.dec_rate (small r.dec_rate f.dec_rate) in
    simp length-append (omega arith)

pub line_short : (rates : Bool) (r : Star) → Fitting r → length (line rates r) ≤ 64
unfolding line
line_short rates r f = by_case (in_range r) (decimal_short r.number f.number) (place_short r f) (rates_short rates r f)
  where
    by_case : (b : Bool) → length (decimal_text r.number) ≤ 10 → length (place_text r) ≤ 23 → length (rates_text rates r) ≤ 24
        → length (decimal_text r.number ++ cond b (place_text r ++ (rates_text rates r ++ ok_end)) bad_end) ≤ 64
    by_case true n a t = simp length-append (omega arith)
    by_case false n a t = simp length-append (omega arith)

heading_short : (n : ℕ) → n < 4294967296 → length (heading n) ≤ 20
unfolding heading
heading_short n h = let d = decimal_short n h in simp length-append (omega arith)

footing_short : (g b : ℕ) → g < 4294967296 → b < 4294967296 → length (footing g b) ≤ 40
unfolding footing
footing_short g b h k = let d = decimal_short g h in let e = decimal_short b k in simp length-append (omega arith)

module _ (rates : Bool) where
  lines_short : (rs : List Star) → AllFitting rs → length (lines rates (kept rs)) ≤ 64 * length (kept rs)
  lines_short [] f = omega arith
  lines_short (r ∷ rs) f = by_case (is_kept r) (lines_short rs f.1)
    where
      by_case : (b : Bool) → length (lines rates (kept rs)) ≤ 64 * length (kept rs)
          → length (lines rates (cond b (r ∷ kept rs) (kept rs))) ≤ 64 * length (cond b (r ∷ kept rs) (kept rs))
      by_case true h = omega (arith, length-append (line rates r) (lines rates (kept rs)), line_short rates r f.0)
      by_case false h = h

  sheet_short : (rs : List Star) → AllFitting rs → length rs ≤ most_stars → length (sheet_in rates (kept rs)) ≤ room
  unfolding sheet_in
  sheet_short rs f h =
      let n = fewer_kept rs in
      let g = goods_most (kept rs) in
      let a = heading_short (length (kept rs)) (omega arith) in
      let b = lines_short rs f in
      let c = footing_short (goods (kept rs)) (length (kept rs) - goods (kept rs)) (omega arith) (omega arith) in
      simp length-append (omega arith)

  pub has_room : (s : List ℕ) → Bytes s → length (sheet_of rates s) ≤ room
  unfolding sheet_of
  has_room s y = by_case (is_list s) refl
    where
      by_case : (b : Bool) → is_list s ≡ b → length (cond b (sheet_in rates (kept (stars s))) (refused_text 8)) ≤ room
      by_case true t = sheet_short (stars s) (list_fits s y t) (omega (arith, length_stars s, few s t))
      by_case false t = omega (arith, refused_short 8)
