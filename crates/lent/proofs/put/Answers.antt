-- `lent::put` meets its contract: after i passes the first i bytes of src are written.
use mathlib.Core.Path.{◌≡◌}
use mathlib.Core.List.{List, [], ◌∷◌, ◌++◌}
use Prim.Native.Nat.{ℕ, ◌+◌, ◌<◌}
use native.Mathlib.Numerals.{add-one}
use native.Mathlib.Omega.{arith}
use lib.ListN.{length, take, get_or}
use lib.Seq.{take-suc, take-length}
use Rattle.lent.specs.laws.Writing.{after, same, nothing, length_kept}
use Rattle.lent.proofs.put.Goals as goal

one_more : (s : List ℕ) (i : ℕ) → i < length s → take i s ++ (get_or s i 0 ∷ []) ≡ take (i + 1) s
one_more s i h = rw (add-one, take-suc s i 0)

pub loop-b-init : goal.loop-b-init
loop-b-init c = nothing _ _ _ c.within-offset.ensures

pub loop-b-preserved : goal.loop-b-preserved
loop-b-preserved c =
    same (one_more c.args.src.now c.loop-b.b-index (omega arith)) (after c.loop-b.invariant c.put_byte-offset.ensures)

pub shape_of-out : goal.shape_of-out
shape_of-out c = length_kept c.loop-b.invariant

pub returns : goal.returns
returns c =
    let src = c.args.src.now in
    let all : c.loop-b.b-index ≡ length src = omega arith in
    same (rw all (take-length src)) c.loop-b.invariant
