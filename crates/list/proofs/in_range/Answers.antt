-- `list::in_range` meets its contract: each size that was taken is that of its field.
use mathlib.Core.Path.{◌≡◌, sym, ap, ◌∙◌}
use mathlib.Core.Bool.{Bool}
use Prim.Native.Nat.{ℕ}
use lib.Dec.{leb}
use lib.IntN.{nat_abs}
use borrow.Author.Tests.{lt-ltb, le-ltb, lt-leb, le-leb}
use Rattle.signed.specs.laws.Signed.{signed_word}
use Rattle.list.specs.rules.Record.{fastest, in_range}
use Rattle.list.proofs.in_range.Lts as lts
use Rattle.list.proofs.in_range.Reads as reads
use Rattle.list.proofs.in_range.Tie as tie
use Rattle.list.proofs.in_range.Goals as goal

dec_size : (c : (lts.After-size tie.the-claims reads.Pre reads.Post)) → c.size.result ≡ nat_abs c.args.star.dec
dec_size c = c.size.ensures ∙ ap nat_abs (signed_word c.args.star.dec c.struct_told-1.given.1.1.0.1)

asc_rate_size : (c : (lts.After-size2 tie.the-claims reads.Pre reads.Post)) → c.size-2.result ≡ nat_abs c.args.star.asc_rate
asc_rate_size c =
    c.size-2.ensures
    ∙ ap nat_abs (signed_word c.args.star.asc_rate c.struct_told-2-1.given.1.1.1.0.1)

dec_rate_size : (c : goal.After-size-3) → c.size-3.result ≡ nat_abs c.args.star.dec_rate
dec_rate_size c =
    c.size-3.ensures
    ∙ ap nat_abs (signed_word c.args.star.dec_rate c.struct_told-3-1.given.1.1.1.1.0.1)

-- a test of a size is one of the field
tested : (n size most : ℕ) (b : Bool) → n ≡ size → leb n most ≡ b → leb size most ≡ b
tested n size most b e t = sym (ap (λ (k : ℕ). leb k most) e) ∙ t

pub returns-then-star-ge1296000000 : goal.returns-then-star-ge1296000000
unfolding in_range
returns-then-star-ge1296000000 c = simp (le-ltb _ _ c.if-star-ge1296000000.true)

pub returns-then-size-gt324000000 : goal.returns-then-size-gt324000000
unfolding in_range
returns-then-size-gt324000000 c =
    simp (lt-ltb _ _ c.if-star-ge1296000000.false, tested _ _ _ _ (dec_size c.before) (lt-leb _ _ c.if-size-gt324000000.true))

pub returns-then-size-gt-FASTEST : goal.returns-then-size-gt-FASTEST
unfolding in_range
returns-then-size-gt-FASTEST c =
    simp (
      lt-ltb _ _ c.if-star-ge1296000000.false,
      tested _ _ _ _ (dec_size c.before.before.before.before) (le-leb _ _ c.if-size-gt324000000.false),
      tested _ _ _ _ (asc_rate_size c.before) (lt-leb _ _ c.if-size-gt-FASTEST.true),
    )

pub returns : goal.returns
unfolding in_range
returns c =
    simp (
      lt-ltb _ _ c.if-star-ge1296000000.false,
      tested _ _ _ _ (dec_size c.before.before.before.before.before.before) (le-leb _ _ c.if-size-gt324000000.false),
      tested _ _ _ _ (asc_rate_size c.before.before.before) (le-leb _ _ c.if-size-gt-FASTEST.false),
    )
    (ap (λ (n : ℕ). leb n fastest) (dec_rate_size c))
