-- The text of a sight: the observer's place, the edition where it is the published one, the star's number, its heading, azimuth and altitude, the heading of a mark where a circle
-- was read, and that UT1 is taken for UTC, where it is. Of a refused sight its refusal alone. A text is a list of bytes.
use Rattle.std.specs.Prelude.{ℕ, List, ◌++◌, Option, None, Some}
use Rattle.quantity.specs.declared.Deg.{Deg}
use Rattle.quantity.specs.rules.Angle.{deg}
use Rattle.quantity.specs.rules.Answer.{Answer, answered, refused, Triple, triple}
use Rattle.edition.specs.declared.Edition.{Edition}
use Rattle.helpers.specs.rules.Angle.{radians_of}
use Rattle.list.specs.declared.Star.{Star}
use Rattle.list.specs.rules.Find.{Entry, find_rule}
use Rattle.atmos.specs.rules.Sight.{plan_alt_rule}
use Rattle.heading.specs.rules.Heading.{heading_rule}
use Rattle.heading.specs.rules.Mark.{mark_heading_rule}
use Rattle.text_number.specs.rules.Bytes.{ascii}
use Rattle.text_number.specs.rules.Number.{decimal_text}
use Rattle.text_heading.specs.rules.Angle.{angle_text, circle_text, mark_text}
use Rattle.text_heading.specs.rules.Place.{place_text}
use Rattle.text_heading.specs.rules.Edition.{edition_text}
use Rattle.text_heading.specs.rules.Altitude.{altitude_text}
use Rattle.text_heading.specs.rules.Refusal.{sight_refusal_text, mark_refusal_text}
use Rattle.report_day.specs.rules.Day.{open_text}
use Rattle.report_heading.specs.declared.Sight.{Sight}
use Rattle.report_heading.specs.declared.Readings.{Readings}

unfoldable pub star_text : ℕ → Deg → List ℕ
star_text number heading =
    ascii "star             " ++ (decimal_text number ++ (ascii "\nheading         " ++ (circle_text heading ++ ascii " from north, clockwise\n")))

-- the last: at which altitude the star is seen
unfoldable pub sky_from : Deg → Deg → Answer Deg → List ℕ
sky_from az alt seen =
    ascii "azimuth         " ++ (angle_text az ++ (ascii " from south, west positive\naltitude        " ++ altitude_text alt seen))

abbrev pub sky_text : Deg → Deg → List ℕ
sky_text az alt = sky_from az alt (plan_alt_rule alt)

unfoldable pub lines_text : Edition → Sight → Deg → Deg → Deg → List ℕ
lines_text edition sight heading az alt =
    place_text sight.long sight.lat ++ (edition_text edition ++ (star_text sight.number heading ++ sky_text az alt))

abbrev pub beside_text : Edition → Sight → Deg → Deg → Deg → Answer Deg → List ℕ
beside_text edition sight heading az alt (answered mark) = lines_text edition sight heading az alt ++ (mark_text mark ++ open_text sight.utc)
beside_text edition sight heading az alt (refused n) = mark_refusal_text n

abbrev pub read_text : Edition → Sight → Deg → Deg → Deg → Option Readings → List ℕ
read_text edition sight heading az alt None = lines_text edition sight heading az alt ++ open_text sight.utc
read_text edition sight heading az alt (Some read) = beside_text edition sight heading az alt (mark_heading_rule heading read.star read.mark)

abbrev pub bearings_text : Edition → Sight → Answer Triple → Option Readings → List ℕ
bearings_text edition sight (answered (triple heading az alt)) readings = read_text edition sight (deg heading) (deg az) (deg alt) readings
bearings_text edition sight (refused n) readings = sight_refusal_text n

-- of a star's record
abbrev pub bearings_of : Edition → Star → Sight → Answer Triple
bearings_of edition star sight =
    heading_rule edition star.asc star.dec star.asc_rate star.dec_rate sight.day1 sight.day2
    (radians_of sight.long) (radians_of sight.lat)

abbrev pub found_text : Edition → Sight → Answer Entry → Option Readings → List ℕ
found_text edition sight (answered e) readings = bearings_text edition sight (bearings_of edition e.star sight) readings
found_text edition sight (refused n) readings = sight_refusal_text n

-- a star that is found has the sight's number
abbrev pub sight_text : Edition → List ℕ → Sight → Option Readings → List ℕ
sight_text edition s sight readings = found_text edition sight (find_rule s sight.number) readings

-- bytes of the longest text, at most
abbrev pub room : ℕ
room = 560
