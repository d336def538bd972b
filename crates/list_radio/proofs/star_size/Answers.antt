-- `list_radio::star_size` meets its contract.
use mathlib.Core.Path.{◌≡◌, ap, ◌∙◌}
use Prim.Native.Nat.{ℕ, ◌+◌, ◌≤◌}
use native.Mathlib.Omega.{arith}
use lib.ListN.{length}
use Rattle.signed.specs.laws.Signed.{signed_word}
use Rattle.list_groups.specs.rules.Groups.{groups}
use Rattle.list_groups.specs.rules.Fold.{folded}
use Rattle.list_groups.specs.laws.Length.{at_most_five}
use Rattle.list_radio.specs.laws.Star.{length_star}
use Rattle.list_radio.proofs.star_size.Goals as goal

counted : (k n m : ℕ) → k ≡ length (groups n) → n ≡ m → k ≡ length (groups m)
counted k n m p e = p ∙ ap (λ (x : ℕ). length (groups x)) e

pub overflow_add-result : goal.overflow_add-result
overflow_add-result c =
    let r = c.args.star in
    omega (arith, c.count.ensures, c.count-2.ensures, at_most_five r.number, at_most_five r.asc)

pub overflow_add-result-2 : goal.overflow_add-result-2
overflow_add-result-2 c =
    let two : (c.count.result + c.count-2.result ≤ 10) = let r = c.args.star in
    omega (arith, c.count.ensures, c.count-2.ensures, at_most_five r.number, at_most_five r.asc) in
    omega (arith, two, c.count-3.ensures, at_most_five c.fold.result)

pub overflow_add-result-3 : goal.overflow_add-result-3
overflow_add-result-3 c =
    let two : (c.count.result + c.count-2.result ≤ 10) = let r = c.args.star in
    omega (arith, c.count.ensures, c.count-2.ensures, at_most_five r.number, at_most_five r.asc) in
    omega
    (arith, two, c.count-3.ensures, at_most_five c.fold.result, c.count-4.ensures, at_most_five c.fold-2.result)

pub overflow_add-result-4 : goal.overflow_add-result-4
overflow_add-result-4 c =
    let two : (c.count.result + c.count-2.result ≤ 10) = let r = c.args.star in
    omega (arith, c.count.ensures, c.count-2.ensures, at_most_five r.number, at_most_five r.asc) in
    omega
    (arith, two, c.count-3.ensures, at_most_five c.fold.result, c.count-4.ensures, at_most_five c.fold-2.result, c.count-5.ensures, at_most_five c.fold-3.result)

pub returns : goal.returns
returns c =
    let r = c.args.star in
    let dec = c.fold.ensures ∙ ap folded (signed_word r.dec c.struct_told-1.given.1.1.0.1) in
    let u = c.fold-2.ensures ∙ ap folded (signed_word r.asc_rate c.struct_told-2-1.given.1.1.1.0.1) in
    let v = c.fold-3.ensures ∙ ap folded (signed_word r.dec_rate c.struct_told-3-1.given.1.1.1.1.0.1) in
    omega
    (arith, c.count.ensures, c.count-2.ensures, counted _ _ _ c.count-3.ensures dec, counted _ _ _ c.count-4.ensures u, counted _ _ _ c.count-5.ensures v, length_star r)
