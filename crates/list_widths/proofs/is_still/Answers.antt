-- `list_widths::is_still` meets its contract: each size that was taken is that of its field.
use mathlib.Core.Path.{◌≡◌, sym, ap, ◌∙◌}
use mathlib.Core.Bool.{Bool}
use Prim.Native.Nat.{ℕ}
use lib.Dec.{eqb}
use lib.IntN.{nat_abs}
use borrow.Author.Tests.{eq-eqb, ne_eqb}
use Rattle.signed.specs.laws.Signed.{signed_word}
use Rattle.list_widths.specs.rules.Narrow.{is_still}
use Rattle.list_widths.proofs.is_still.Goals as goal

-- a test of a size is one of the field
tested : (n size : ℕ) (b : Bool) → n ≡ size → eqb n 0 ≡ b → eqb size 0 ≡ b
tested n size b e t = sym (ap (λ (k : ℕ). eqb k 0) e) ∙ t

pub returns-then-size-eq0 : goal.returns-then-size-eq0
unfolding is_still
returns-then-size-eq0 c =
    let asc-rate-size : c.size.result ≡ nat_abs c.args.star.asc_rate = c.size.ensures ∙ ap nat_abs (signed_word c.args.star.asc_rate c.struct_told-1.given.1.1.1.0.1) in
    let dec-rate-size : c.size-then-size-eq0.result ≡ nat_abs c.args.star.dec_rate = c.size-then-size-eq0.ensures
    ∙ ap nat_abs (signed_word c.args.star.dec_rate c.struct_told-then-size-eq0-1.given.1.1.1.1.0.1) in
    simp (tested _ _ _ asc-rate-size (eq-eqb _ _ c.if-size-eq0.true))
    (ap (λ (n : ℕ). eqb n 0) dec-rate-size)

pub returns-else-size-eq0 : goal.returns-else-size-eq0
unfolding is_still
returns-else-size-eq0 c =
    let asc-rate-size : c.size.result ≡ nat_abs c.args.star.asc_rate = c.size.ensures ∙ ap nat_abs (signed_word c.args.star.asc_rate c.struct_told-1.given.1.1.1.0.1) in
    simp (tested _ _ _ asc-rate-size (ne_eqb _ _ c.if-size-eq0.false)) (ne_eqb _ _ c.if-size-eq0.false)
