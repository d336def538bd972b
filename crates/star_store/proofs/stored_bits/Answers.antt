-- `star_store::stored_bits` meets its contract.
use borrow.Author.Tests.{ne_eqb}
use mathlib.Core.Path.{sym}
use Rattle.double.specs.laws.ReadBack.{zero_bits_lem}
use Rattle.star_store.proofs.stored_bits.Goals as goal

pub returns-else-status_of-eq0 : goal.returns-else-status_of-eq0
returns-else-status_of-eq0 g c = rw (ne_eqb _ _ (rw c.status_of.ensures at c.if-status_of-eq0.false)) (sym zero_bits_lem)
