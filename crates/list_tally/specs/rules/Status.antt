-- The statuses that a tally counts.
use Rattle.std.specs.Prelude.{ℕ}

-- the highest known: 0, or a number of the table of refusals
abbrev pub highest_status : ℕ
highest_status = 19
