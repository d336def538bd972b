-- What the reader shows, and what find answers, as one number, by which `apart` tells two of them apart.
use Rattle.std.specs.Prelude.{ℕ, suc, ◌+◌, ◌*◌}
use Rattle.list.specs.rules.Reader.{Item, item, none}
use Rattle.list.specs.rules.Find.{Entry}

abbrev pub of_item : Item → ℕ
of_item (item r next) = next + 65536 * suc r.number
of_item none = 0

abbrev pub of_entry : Entry → ℕ
of_entry e = e.index
