-- Texts, read, and texts that are none, each with its reason.
use Rattle.std.specs.Prelude.{ℕ, refl, [], ◌∷◌, ℤ, pos, negsuc, Float}
use Prim.Native.String as quoted
use Rattle.double.specs.rules.Operations.{bits}
use Rattle.double.specs.rules.Table.{Row, ◌is◌, Agrees}
use Rattle.text_number.specs.rules.Bytes.{ascii}
use Rattle.text_date.specs.declared.Reason.{Reason}
use Rattle.text_date.specs.declared.Reason.TheVariants.{
  NoDate,
  NoMonth,
  NoDay,
  TooEarly,
  TooLate,
  NoTime,
  NoZ,
  NoFraction,
  NoHour,
  NoMinute,
  NoSecond,
}
use Rattle.text_date.specs.rules.Date as date
use Rattle.text_date.specs.rules.Time.{Time, time_rule}
use Rattle.text_date.specs.rules.Moment.{moment_rule}
use Rattle.text_date.specs.notions.Computed.{computed}

-- a text, UT1 − UTC in milliseconds, and the bits of the Julian day
abbrev says : quoted.String → ℤ → ℕ → Row (date.Reading Float)
says text dut1 pattern = moment_rule (ascii text) dut1 is date.is (bits pattern)

-- 2462088.690005787; 2462088.6900034724, 0.2 s earlier; 2462088.5; 2446896.30625 (Meeus, 12.b); 2299160.5; 3182045.0
pub texts_read :
    Agrees
    (says "2028-11-13T04:33:36.5Z" (pos 0) 0x4142c8c458521c11
    ∷ says "2028-11-13T04:33:36.5Z" (negsuc 199) 0x4142c8c4585208a6
    ∷ says "2028-11-13" (pos 0) 0x4142c8c440000000
    ∷ says "1987-04-10T19:21:00Z" (pos 0) 0x4142ab1827333333
    ∷ says "1582-10-15" (pos 0) 0x41418a8c40000000
    ∷ says "4000-01-16T12:00:00Z" (pos 0) 0x414846ee80000000
    ∷ [])
unfolding computed
texts_read = refl

abbrev says_none : quoted.String → Reason → Row (date.Reading Time)
says_none text reason = time_rule (ascii text) is date.none reason

pub texts_named :
    Agrees
    (says_none "1582-10-14" TooEarly
    ∷ says_none "4000-01-17" TooLate
    ∷ says_none "2028-02-30" NoDay
    ∷ says_none "2027-02-29" NoDay
    ∷ says_none "2028-13-01" NoMonth
    ∷ says_none "2028-00-01" NoMonth
    ∷ says_none "2028-1a-13" NoMonth
    ∷ says_none "2028-11-13T24:00:00Z" NoHour
    ∷ says_none "2028-11-13T04:60:00Z" NoMinute
    ∷ says_none "2028-11-13T04:33:60Z" NoSecond
    ∷ says_none "2028-11-13T04:33:36.5" NoZ
    ∷ says_none "2028-11-13T04:33:36+02:00" NoZ
    ∷ says_none "2028-11-13T04:33:36.5000Z" NoFraction
    ∷ says_none "2028-11-13T04:33:36.Z" NoFraction
    ∷ says_none "2028/11/13" NoDate
    ∷ says_none "2028-11" NoDate
    ∷ says_none "2028-11-13x" NoTime
    ∷ says_none "2028-11-13 04:33:36Z" NoTime
    ∷ says_none "2028-11-13T04:33Z" NoTime
    ∷ [])
unfolding computed
texts_named = refl
