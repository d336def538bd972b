-- `text_sheet::render` meets its contract.
use mathlib.Core.Path.{◌≡◌, ap, ◌∙◌}
use mathlib.Core.Bool.{Bool}
use mathlib.Core.List.{List, ◌++◌}
use Prim.Native.Nat.{ℕ, ◌≤◌}
use native.Mathlib.Nat.{zero-add}
use native.Mathlib.Omega.{arith}
use lib.ListN.{length, drop}
use borrow.Author.Tests.{lt-ltb, le-ltb}
use Rattle.quantity.specs.rules.Answer.{answered}
use Rattle.lent.specs.rules.Writing.{Wrote}
use Rattle.lent.specs.laws.Writing.{whole, length_kept}
use Rattle.text_sheet.specs.rules.Sheet.{sheet_of}
use Rattle.text_sheet.specs.rules.Render.{room}
use Rattle.text_sheet.specs.laws.Room.{has_room}
use Rattle.text_sheet.proofs.render.Goals as goal

-- a sheet written where it has room
module _ (rates : Bool) (s old new : List ℕ) (n : ℕ) (w : Wrote old 0 (sheet_of rates s) new n) (h : length (sheet_of rates s) ≤ length old) where
  all : n ≡ length (sheet_of rates s)
  all = omega (arith, w.offset)

  over : new ≡ sheet_of rates s ++ drop (length (sheet_of rates s)) old
  over = w.text ∙ whole old 0 (sheet_of rates s) (omega arith) ∙ ap (λ (k : ℕ). sheet_of rates s ++ drop k old) (zero-add (length (sheet_of rates s)))

pub returns-then-out-lt-ROOM : goal.returns-then-out-lt-ROOM
returns-then-out-lt-ROOM c =
    record {
      result_value = simp (lt-ltb _ _ c.if-out-lt-ROOM.true);
      text = simp (lt-ltb _ _ c.if-out-lt-ROOM.true);
      within = omega arith;
    }

pub returns : goal.returns
returns c =
    let a = c.args in
    let s = a.bytes.now in
    let rates = a.rates in
    let w = c.put_sheet.ensures in
    let fits : length (sheet_of rates s) ≤ length a.out.now = omega (arith, has_room rates s (λ i. (c.type_inv.bytes i).fits), c.if-out-lt-ROOM.false) in
    let no = le-ltb (length a.out.now) room c.if-out-lt-ROOM.false in
    record {
      result_value = simp no (ap answered (all rates s _ _ _ w fits));
      text = simp no (over rates s _ _ _ w fits);
      within = omega (arith, all rates s _ _ _ w fits, length_kept w);
    }
