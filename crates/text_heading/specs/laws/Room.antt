-- How long the parts of a sight's text are, at most.
use Rattle.std.specs.Prelude.{ℕ, ◌/◌, ◌%◌, ◌≤◌, Bool, true, false, cond, [], eqb, ltb, length}
use Rattle.std.proofs.Common.{arith, length-append}
use Rattle.std.specs.Float.Ieee.{lt, le}
use Rattle.double.specs.rules.Operations.{zero}
use Rattle.quantity.specs.declared.Deg.{Deg}
use Rattle.quantity.specs.rules.Answer.{Answer, answered, refused}
use Rattle.edition.specs.declared.Edition.{Edition}
use Rattle.edition.specs.declared.Edition.TheVariants.{Crate, Published}
use Rattle.text_number.specs.rules.Bytes.{ascii}
use Rattle.text_number.specs.laws.Number.{any_decimal_short}
use Rattle.text_time.specs.laws.Clock.{one_digit_lem, two_digits_lem}
use Rattle.text_refusal.specs.rules.Refusal.{star_words}
use Rattle.text_refusal.specs.laws.Room.{either_short, star_words_short, with_words}
use Rattle.text_heading.specs.rules.Angle.{tenths_of, circle_tenths, arc_text, pad_text, column_text, angle_text, circle_text, mark_text}
use Rattle.text_heading.specs.rules.Place.{parts_text, coordinate_text, place_text}
use Rattle.text_heading.specs.rules.Edition.{edition_text}
use Rattle.text_heading.specs.rules.Altitude.{near_zenith, seen_at, seen_text, remark_text, altitude_text}
use Rattle.text_heading.specs.rules.Refusal.{sight_words, mark_words, sight_refusal_text, mark_refusal_text}

-- ---- an angle

arc_short : (n : ℕ) → length (arc_text n) ≤ 29
unfolding arc_text
arc_short n =
    let a = any_decimal_short (n / 36000) in
    let b = two_digits_lem (n / 600 % 60) (omega arith) in
    let c = two_digits_lem (n / 10 % 60) (omega arith) in
    let d = one_digit_lem 19 (n % 10) (omega arith) in
    simp length-append (omega arith)

pad_short : (n : ℕ) → length (pad_text n) ≤ 2
unfolding pad_text
pad_short n =
    either_short 2 (ltb n 10) (ascii "  ") (cond (ltb n 100) (ascii " ") []) (omega arith)
    (either_short 2 (ltb n 100) (ascii " ") [] (omega arith) (omega arith))

column_short : (minus : Bool) (n : ℕ) → length (column_text minus n) ≤ 32
unfolding column_text
column_short minus n = let a = pad_short (n / 36000) in let b = arc_short n in simp length-append (omega arith)

pub angle_short : (x : Deg) → length (angle_text x) ≤ 32
unfolding angle_text
angle_short x = column_short _ (tenths_of x)

pub circle_short : (x : Deg) → length (circle_text x) ≤ 32
unfolding circle_text
circle_short x = column_short false (circle_tenths x)

pub mark_short : (mark : Deg) → length (mark_text mark) ≤ 71
unfolding mark_text
mark_short mark = let a = circle_short mark in simp length-append (omega arith)

-- ---- the observer's place

parts_short : (n letter : ℕ) → length (parts_text n letter) ≤ 25
unfolding parts_text
parts_short n letter =
    let a = any_decimal_short (n / 100) in
    let b = two_digits_lem (n % 100) (omega arith) in
    simp length-append (omega arith)

coordinate_short : (x : Deg) (positive negative : ℕ) → length (coordinate_text x positive negative) ≤ 25
unfolding coordinate_text
coordinate_short x positive negative = parts_short _ _

pub place_short : (long lat : Deg) → length (place_text long lat) ≤ 70
unfolding place_text
place_short long lat =
    let a = coordinate_short long 87 69 in
    let b = coordinate_short lat 78 83 in
    simp length-append (omega arith)

-- ---- the edition

pub edition_short : (edition : Edition) → length (edition_text edition) ≤ 27
unfolding edition_text
edition_short Crate = omega arith
edition_short Published = omega arith

-- ---- an altitude

seen_short : (a : Answer Deg) → length (seen_text a) ≤ 39
unfolding seen_at
seen_short (answered x) = let a = arc_short (tenths_of x) in simp length-append (omega arith)
seen_short (refused n) = omega arith

remark_short : (alt : Deg) → length (remark_text alt) ≤ 60
unfolding remark_text
remark_short alt = by_cases (lt alt.0 zero) (le near_zenith alt.0)
  where
    by_cases : (b d : Bool)
        → length (cond b (ascii ", below the horizon") (cond d (ascii ", within a degree of the zenith: the azimuth is ill defined") [])) ≤ 60
    by_cases true d = omega arith
    by_cases false true = omega arith
    by_cases false false = omega arith

pub altitude_short : (alt : Deg) (seen : Answer Deg) → length (altitude_text alt seen) ≤ 132
unfolding altitude_text
altitude_short alt seen =
    let a = angle_short alt in
    let b = seen_short seen in
    let c = remark_short alt in
    simp length-append (omega arith)

-- ---- a refusal

sight_words_short : (n : ℕ) → length (sight_words n) ≤ 100
unfolding sight_words
sight_words_short n =
    either_short 100 (eqb n 3) _ _ (omega arith)
    (either_short 100 (eqb n 10) _ _ (omega arith)
    (either_short 100 (eqb n 14) _ (star_words n) (omega arith) (omega (arith, star_words_short n))))

mark_words_short : (n : ℕ) → length (mark_words n) ≤ 58
unfolding mark_words
mark_words_short n = either_short 58 (eqb n 3) _ [] (omega arith) (omega arith)

pub sight_refusal_short : (n : ℕ) → length (sight_refusal_text n) ≤ 179
unfolding sight_refusal_text
sight_refusal_short n = with_words n (sight_words n) 100 (sight_words_short n)

pub mark_refusal_short : (n : ℕ) → length (mark_refusal_text n) ≤ 137
unfolding mark_refusal_text
mark_refusal_short n = with_words n (mark_words n) 58 (mark_words_short n)
