-- `lent::has_room` meets its contract.
use mathlib.Core.Path.{◌≡◌, refl, sym}
use mathlib.Core.Bool.{Bool, true, false}
use Prim.Native.Nat.{ℕ, ◌+◌, ◌-◌, ◌≤◌, ◌<◌}
use native.Mathlib.Omega.{arith}
use lib.Dec.{leb}
use borrow.Author.Tests.{lt-leb, le-leb, leb-true, leb-false}
use Rattle.lent.proofs.has_room.Goals as goal

moved : (at size len : ℕ) → at ≤ len → leb size (len - at) ≡ leb (at + size) len
moved at size len h = go (leb size (len - at)) refl
  where
    go : (t : Bool) → leb size (len - at) ≡ t → t ≡ leb (at + size) len
    go true e = sym (le-leb (at + size) len (omega (arith, leb-true size (len - at) e)))
    go false e = sym (lt-leb (at + size) len (omega (arith, leb-false size (len - at) e)))

past : (at size len : ℕ) → len < at → false ≡ leb (at + size) len
past at size len h = sym (lt-leb (at + size) len (omega arith))

pub returns-then-at-len : goal.returns-then-at-len
returns-then-at-len c = past _ _ _ c.if-at-len.true

pub returns : goal.returns
returns c = moved _ _ _ c.if-at-len.false
