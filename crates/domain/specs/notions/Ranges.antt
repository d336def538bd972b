-- What is known of a double by a range.
use Rattle.std.specs.Prelude.{Float}
use Rattle.double.specs.notions.Range.{Range, In, span}

-- a constant
abbrev pub constant : Float → Range
constant c = span c c

-- a record, so that range and double are found
pub record Lies (r : Range) (x : Float) : Type 0 where
  pub lies : In r x
