-- The version of the archive as one number, a byte for each part: its first the highest.
use Rattle.std.specs.Prelude.{ℕ, ◌+◌, ◌*◌}

abbrev pub major : ℕ
major = 0

abbrev pub minor : ℕ
minor = 2

abbrev pub patch : ℕ
patch = 0

abbrev pub version : ℕ
version = 65536 * major + 256 * minor + patch
