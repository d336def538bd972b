-- What an entry is to the sheet of one coordinate, and the entries of slices that are lent.
use Rattle.std.specs.Prelude.{ℕ, Bool, cond, List, eqb, length, get_or}
use Rattle.double.specs.rules.Operations.{bits}
use Rattle.quantity.specs.rules.Angle.{rad}
use Rattle.lent.specs.rules.Rows.{upto}
use Rattle.residual_sheet.specs.declared.Residual.{Residual}
use Rattle.residual_sheet.specs.rules.Residual.{residual_of, is_aside}

-- of a status that is not 0; set aside; or taken in
pub data Entry : Type 0 where
  other : Entry
  aside : Entry
  taken : Residual → Entry

abbrev pub entry_of : ℕ → Residual → Entry
entry_of status x = cond (eqb status 0) (cond (is_aside x) aside (taken x)) other

-- entry i: a status, and a computed and a measured angle, each lent as its bits
unfoldable pub entry_at : Bool → List ℕ → List ℕ → List ℕ → ℕ → Entry
entry_at across status computed measured i =
    entry_of (get_or status i 0) (residual_of across (rad (bits (get_or computed i 0))) (rad (bits (get_or measured i 0))))

abbrev pub entries_of : Bool → List ℕ → List ℕ → List ℕ → List Entry
entries_of across status computed measured = upto (length status) (entry_at across status computed measured)
