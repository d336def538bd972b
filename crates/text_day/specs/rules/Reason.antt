-- Why a text says no day, in words.
use Rattle.std.specs.Prelude.{ℕ, List, [], ◌∷◌, ◌++◌}
use Rattle.text_number.specs.rules.Bytes.{ascii, line_end}
use Rattle.text_date.specs.declared.Reason.{Reason}
use Rattle.text_date.specs.declared.Reason.TheVariants.{
  NoDate,
  NoMonth,
  NoDay,
  TooEarly,
  TooLate,
  NoTime,
  NoZ,
  NoFraction,
  NoHour,
  NoMinute,
  NoSecond,
}

unfoldable pub reason_text : Reason → List ℕ
reason_text NoDate = ascii "a day is a Julian day (digits with at most one point), J2000, or a date as 2028-11-13 or 2028-11-13T04:33:36.5Z"
reason_text NoMonth = ascii "there is no such month"
reason_text NoDay = ascii "that month has no such day"
reason_text TooEarly = ascii "a date is 1582-10-15 or later"
reason_text TooLate = ascii "a date is 4000-01-16 or earlier"
reason_text NoTime = ascii "a time is as T04:33:36Z or T04:33:36.5Z, behind its date"
reason_text NoZ = ascii "a time ends in Z: it is UTC"
reason_text NoFraction = ascii "at most three digits of a second"
reason_text NoHour = ascii "the hour is 00 to 23"
reason_text NoMinute = ascii "the minute is 00 to 59"
reason_text NoSecond = ascii "the second is 00 to 59"

-- a line: an argument's name, its word, and why it says no day
unfoldable pub complaint_text : List ℕ → List ℕ → Reason → List ℕ
complaint_text name word reason = name ++ (ascii " is '" ++ (word ++ (ascii "': " ++ (reason_text reason ++ (line_end ∷ [])))))
