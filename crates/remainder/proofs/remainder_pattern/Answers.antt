-- `remainder::remainder_pattern` meets its contract: what counts no less has no fewer places.
use borrow.Author.Tests.{le-ltb}
use mathlib.Core.Path.{◌≡◌, refl, ◌∙◌}
use Prim.Native.Nat.{ℕ, ◌+◌, ◌-◌, ◌/◌, ◌%◌, ◌^◌, ◌≤◌}
use native.Mathlib.Nat.{lt_trans, mod-lt}
use native.Mathlib.Omega.{arith}
use Rattle.remainder.specs.rules.Digits.{digits_of, binary_places_of}
use Rattle.remainder.specs.notions.Steps.{Counted}
use Rattle.remainder.specs.laws.Digits.{counted, binary_places_order, rest_counts}
use Rattle.remainder.proofs.remainder_pattern.Lts as lts
use Rattle.remainder.proofs.remainder_pattern.Reads as reads
use Rattle.remainder.proofs.remainder_pattern.Tie as tie
use Rattle.remainder.proofs.remainder_pattern.Goals as goal

first : (c : (lts.Start tie.the-claims reads.Pre reads.Post)) → Counted c.args.b
first c = counted c.args.b c.requires.0

second : (c : (lts.Start tie.the-claims reads.Pre reads.Post)) → Counted c.args.c
second c = counted c.args.c (omega arith)

pub overflow_sub-binary_places : goal.overflow_sub-binary_places
overflow_sub-binary_places c =
    rw (c.binary_places-up.ensures, c.binary_places.ensures) (binary_places_order _ _ c.requires.2)

pub rest_of-requires : goal.rest_of-requires
rest_of-requires c =
    rw (c.digits.ensures, c.digits-then-c-lt4503599627370496.ensures) ((first c.before.before.before.before.before).few, (second c.before.before.before.before.before).some c.requires.1, (second c.before.before.before.before.before).few)

pub packed-requires : goal.packed-requires
packed-requires c =
    let some = (second c.before.before.before.before.before.before).some c.requires.1 in
    rw (c.rest_of.ensures, c.digits-then-c-lt4503599627370496.ensures, c.binary_places-up.ensures)
    (lt_trans (mod-lt _ some) (second c.before.before.before.before.before.before).few, (second c.before.before.before.before.before.before).room)

pub returns-then-c-lt4503599627370496 : goal.returns-then-c-lt4503599627370496
returns-then-c-lt4503599627370496 c = (
  c.packed.ensures.0,
  c.packed.ensures.1
      ∙ rw (c.rest_of.ensures, c.digits-then-c-lt4503599627370496.ensures, c.binary_places.ensures, c.digits.ensures, c.binary_places-up.ensures)
      (rest_counts (first c.before.before.before.before.before.before.before) (second c.before.before.before.before.before.before.before) c.requires.1 c.requires.2),
)

-- a normal divisor: what is no less is normal too
digits_normal : (x : ℕ) → 2 ^ 52 ≤ x → digits_of x ≡ 2 ^ 52 + x % 2 ^ 52
unfolding digits_of
digits_normal x h = rw (le-ltb x (2 ^ 52) h)

binary_places_normal : (x y : ℕ) → 2 ^ 52 ≤ y → y ≤ x → binary_places_of x - binary_places_of y ≡ x / 2 ^ 52 - y / 2 ^ 52
unfolding binary_places_of
binary_places_normal x y h k = omega arith

place : (x : ℕ) → binary_places_of x ≡ x / 2 ^ 52 - 1
unfolding binary_places_of
place x = refl

pub overflow_sub-b : goal.overflow_sub-b
overflow_sub-b c = omega arith

pub rest_of-requires-2 : goal.rest_of-requires-2
rest_of-requires-2 c = omega arith

pub overflow_sub-c : goal.overflow_sub-c
overflow_sub-c c = omega arith

pub packed-requires-2 : goal.packed-requires-2
packed-requires-2 c =
    let m = 2 ^ 52 + c.args.c % 2 ^ 52 in
    (rw c.rest_of-2.ensures (lt_trans (mod-lt _ (omega arith)) (omega arith)), omega arith)

pub returns : goal.returns
returns c =
    let h = c.if-c-lt4503599627370496.false in (
      c.packed-2.ensures.0,
      c.packed-2.ensures.1
          ∙ rw c.rest_of-2.ensures
          (rw (digits_normal c.args.b (omega arith), digits_normal c.args.c h, binary_places_normal c.args.b c.args.c h c.requires.2, place c.args.c) at
          (rest_counts (first c.before.before.before) (second c.before.before.before) c.requires.1 c.requires.2)),
    )
