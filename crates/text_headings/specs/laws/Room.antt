-- How long the text of a sight is, and that of the mean, at most.
use Rattle.std.specs.Prelude.{ℕ, ◌/◌, ◌%◌, ◌*◌, ◌≤◌, Bool, true, false, List, ltb, nat_abs, length, get_or}
use Rattle.std.proofs.Common.{arith, length-append}
use Rattle.quantity.specs.declared.Deg.{Deg}
use Rattle.residual_sheet.specs.declared.Residual.{Residual}
use Rattle.residual_sheet.specs.declared.Sheet.{Sheet}
use Rattle.residual_sheet.specs.rules.Residual.{is_aside}
use Rattle.units.specs.rules.Nearest.{nearest_whole}
use Rattle.heading_mean.specs.rules.Spread.{spread_of, mean_error}
use Rattle.lent.specs.rules.Texts.{texts}
use Rattle.lent.specs.laws.Texts.{texts_short}
use Rattle.text_number.specs.rules.Bytes.{ascii}
use Rattle.text_number.specs.laws.Number.{any_decimal_short}
use Rattle.text_time.specs.laws.Clock.{three_digits_lem}
use Rattle.text_refusal.specs.laws.Room.{either_short}
use Rattle.text_heading.specs.laws.Room.{circle_short, mark_short}
use Rattle.text_headings.specs.rules.Sight.{seconds_text, sight_of, way_text, aside_text, residual_text, heading_text, row_at}
use Rattle.text_headings.specs.rules.Mean.{counts_text, scatter_text, spread_text, mean_text}

seconds_short : (n : ℕ) → length (seconds_text n) ≤ 25
unfolding seconds_text
seconds_short n =
    let a = any_decimal_short (n / 1000) in
    let b = three_digits_lem (n % 1000) (omega arith) in
    simp length-append (omega arith)

pub sight_of_short : (line star : ℕ) → length (sight_of line star) ≤ 52
unfolding sight_of
sight_of_short line star =
    let a = any_decimal_short line in
    let b = any_decimal_short star in
    simp length-append (omega arith)

way_short : (minus : Bool) → length (way_text minus) ≤ 26
unfolding way_text
way_short true = omega arith
way_short false = omega arith

aside_short : (aside : Bool) → length (aside_text aside) ≤ 12
unfolding aside_text
aside_short true = omega arith
aside_short false = omega arith

residual_short : (x : Residual) (reference : ℕ) → length (residual_text x reference) ≤ 83
unfolding residual_text
residual_short x reference =
    let a = seconds_short x.size in
    let b = way_short x.minus in
    let d = any_decimal_short reference in
    let e = aside_short (is_aside x) in
    simp length-append (omega arith)

heading_short : (line star : ℕ) (mark : Deg) (x : Residual) (reference : ℕ) → length (heading_text line star mark x reference) ≤ 197
unfolding heading_text
heading_short line star mark x reference =
    let a = sight_of_short line star in
    let b = circle_short mark in
    let d = residual_short x reference in
    simp length-append (omega arith)

pub rows_short : (line star heading : List ℕ) (k n : ℕ) → length (texts n (row_at line star heading k)) ≤ 197 * n
unfolding row_at
rows_short line star heading k n = texts_short 197 n (row_at line star heading k) (λ (i : ℕ) h. heading_short (get_or line i 0) (get_or star i 0) _ _ _)

counts_short : (count aside : ℕ) → length (counts_text count aside) ≤ 76
unfolding counts_text
counts_short count aside =
    let a = any_decimal_short count in
    let b = any_decimal_short aside in
    simp length-append (omega arith)

scatter_short : (count sum squares : ℕ) → length (scatter_text count sum squares) ≤ 86
unfolding scatter_text
scatter_short count sum squares =
    let a = seconds_short (nearest_whole (spread_of count sum squares)) in
    let b = seconds_short (nearest_whole (mean_error count sum squares)) in
    simp length-append (omega arith)

spread_short : (count sum squares : ℕ) → length (spread_text count sum squares) ≤ 86
unfolding spread_text
spread_short count sum squares =
    either_short 86 (ltb count 2) (ascii "spread           not known of one sight\n") (scatter_text count sum squares) (omega arith)
    (scatter_short count sum squares)

pub mean_short : (mean : Deg) (s : Sheet) → length (mean_text mean s) ≤ 260
unfolding mean_text
mean_short mean s =
    let a = mark_short mean in
    let b = counts_short (nat_abs s.count) (nat_abs s.aside) in
    let d = spread_short (nat_abs s.count) (nat_abs s.sum) (nat_abs s.squares) in
    simp length-append (omega arith)
