-- The text of any sight has room in `room` bytes.
use Rattle.std.specs.Prelude.{ℕ, ◌≤◌, List, length, Option, None, Some}
use Rattle.std.proofs.Common.{arith, length-append}
use Rattle.quantity.specs.declared.Deg.{Deg}
use Rattle.quantity.specs.rules.Angle.{deg}
use Rattle.quantity.specs.rules.Answer.{Answer, answered, refused, Triple, triple}
use Rattle.edition.specs.declared.Edition.{Edition}
use Rattle.list.specs.rules.Find.{Entry, find_rule}
use Rattle.atmos.specs.rules.Sight.{plan_alt_rule}
use Rattle.heading.specs.rules.Mark.{mark_heading_rule}
use Rattle.text_number.specs.laws.Number.{any_decimal_short}
use Rattle.text_heading.specs.laws.Room.{angle_short, circle_short, mark_short, place_short, edition_short, altitude_short}
use Rattle.text_heading.specs.laws.Room.{sight_refusal_short, mark_refusal_short}
use Rattle.report_day.specs.laws.Room.{open_short}
use Rattle.report_heading.specs.declared.Sight.{Sight}
use Rattle.report_heading.specs.declared.Readings.{Readings}
use Rattle.report_heading.specs.rules.Sight.{star_text, sky_from, sky_text, lines_text, beside_text, read_text, bearings_text, bearings_of}
use Rattle.report_heading.specs.rules.Sight.{found_text, sight_text, room}

star_short : (number : ℕ) (heading : Deg) → length (star_text number heading) ≤ 109
unfolding star_text
star_short number heading = let a = any_decimal_short number in let b = circle_short heading in simp length-append (omega arith)

sky_short : (az alt : Deg) → length (sky_text az alt) ≤ 223
unfolding sky_from
sky_short az alt = let a = angle_short az in let b = altitude_short alt (plan_alt_rule alt) in simp length-append (omega arith)

lines_short : (edition : Edition) (sight : Sight) (heading az alt : Deg) → length (lines_text edition sight heading az alt) ≤ 429
unfolding lines_text
lines_short edition sight heading az alt =
    let a = place_short sight.long sight.lat in
    let b = edition_short edition in
    let c = star_short sight.number heading in
    let d = sky_short az alt in
    simp length-append (omega arith)

module _ (edition : Edition) (sight : Sight) where
  beside_has_room : (heading az alt : Deg) (mark : Answer Deg) → length (beside_text edition sight heading az alt mark) ≤ room
  beside_has_room heading az alt (answered mark) =
      let a = lines_short edition sight heading az alt in
      let b = mark_short mark in
      let c = open_short sight.utc in
      simp length-append (omega arith)
  beside_has_room heading az alt (refused n) = omega (arith, mark_refusal_short n)

  read_has_room : (heading az alt : Deg) (readings : Option Readings) → length (read_text edition sight heading az alt readings) ≤ room
  read_has_room heading az alt None =
      let a = lines_short edition sight heading az alt in
      let b = open_short sight.utc in
      simp length-append (omega arith)
  read_has_room heading az alt (Some read) = beside_has_room heading az alt (mark_heading_rule heading read.star read.mark)

  bearings_have_room : (a : Answer Triple) (readings : Option Readings) → length (bearings_text edition sight a readings) ≤ room
  bearings_have_room (answered (triple heading az alt)) readings = read_has_room (deg heading) (deg az) (deg alt) readings
  bearings_have_room (refused n) readings = omega (arith, sight_refusal_short n)

  found_has_room : (found : Answer Entry) (readings : Option Readings) → length (found_text edition sight found readings) ≤ room
  found_has_room (answered e) readings = bearings_have_room (bearings_of edition e.star sight) readings
  found_has_room (refused n) readings = omega (arith, sight_refusal_short n)

  pub has_room : (s : List ℕ) (readings : Option Readings) → length (sight_text edition s sight readings) ≤ room
  has_room s readings = found_has_room (find_rule s sight.number) readings
