-- Stars at which theorems work rules out.
use Rattle.std.specs.Prelude.{pos, Float}
use Rattle.double.specs.rules.Operations.{bits}
use Rattle.list.specs.declared.Star.{Star}
use Rattle.list.specs.rules.Record.{turn, quarter}

-- a right ascension out of range
abbrev pub beyond : Star
beyond = record { number = 1; asc = turn; dec = pos 0; asc_rate = pos 0; dec_rate = pos 0 }

-- at 60 and 30 degrees, both growing by 20 seconds of arc a year
abbrev pub moving : Star
moving = record { number = 1; asc = 216000000; dec = pos 108000000; asc_rate = pos 20000; dec_rate = pos 20000 }

-- at the pole, and past it a year later
abbrev pub past_the_pole : Star
past_the_pole = record { number = 1; asc = 0; dec = pos quarter; asc_rate = pos 0; dec_rate = pos 1 }

-- 2451910.25
abbrev pub year_later : Float
year_later = bits 0x4142b4e320000000
