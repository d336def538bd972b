-- The bytes of the longest radio list: the first byte, a count of two groups, and of each star three numbers of five groups and two of three.
use Rattle.std.specs.Prelude.{ℕ, ◌+◌, ◌*◌}
use Rattle.list.specs.rules.Stars.{most_stars}

abbrev pub most_bytes : ℕ
most_bytes = 3 + 21 * most_stars

-- Bytes that decide for all after them: the last star may have yearly changes of five groups each, and is refused after the last of them.
abbrev pub deciding_bytes : ℕ
deciding_bytes = most_bytes + 4
