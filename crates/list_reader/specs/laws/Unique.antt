-- The promise of `make` fixes the reader: its bytes and its offset are all of it.
use Rattle.std.specs.Prelude.{◌≡◌}
use Rattle.list_reader.specs.declared.Reader.{Reader}

pub one_made : (r s : Reader) → r.bytes ≡ s.bytes → r.offset ≡ s.offset → r ≡ s
one_made r s p q = λ i. record { bytes = p i; offset = q i }
