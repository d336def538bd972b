-- `text_sheet::put_sheet` meets its contract: heading, lines and footing, one after the other.
use mathlib.Core.Path.{◌≡◌, sym, ap, ◌∙◌}
use mathlib.Core.Bool.{Bool, true, false}
use mathlib.Core.List.{List, ◌++◌, append_assoc}
use Prim.Native.Nat.{ℕ, ◌-◌}
use native.Mathlib.Omega.{arith}
use lib.ListN.{length}
use Rattle.lent.specs.laws.Writing.{after, same}
use Rattle.list.specs.rules.Stars.{is_list, stars, kept}
use Rattle.text_number.specs.rules.Refused.{refused_text}
use Rattle.text_sheet.specs.rules.Sheet.{lines, goods, heading, footing, sheet_in, sheet_of}
use Rattle.text_sheet.specs.laws.Sheet.{goods_most}
use Rattle.text_sheet.proofs.put_sheet.Goals as goal

no_list : (rates : Bool) (s : List ℕ) → is_list s ≡ false → refused_text 8 ≡ sheet_of rates s
unfolding sheet_of
no_list rates s e = simp e

-- all and good are what was counted
a_list : (rates : Bool) (s : List ℕ) (all good : ℕ) → is_list s ≡ true → all ≡ length (kept (stars s)) → good ≡ goods (kept (stars s))
    → heading all ++ lines rates (kept (stars s)) ++ footing good (all - good) ≡ sheet_of rates s
unfolding sheet_of sheet_in
a_list rates s all good t e g = simp (append_assoc, t, e, g)

pub returns-then-not-is_list : goal.returns-then-not-is_list
returns-then-not-is_list c =
    same (ap refused_text c.number.ensures ∙ no_list c.args.rates c.args.bytes.now (sym c.is_list.ensures ∙ c.if-not-is_list.true))
    c.put_refused.ensures

pub overflow_sub-all : goal.overflow_sub-all
overflow_sub-all c =
    let s = c.args.bytes.now in
    omega (arith, c.counts-counted.ensures.all, c.counts-counted.ensures.good, goods_most (kept (stars s)))

pub returns : goal.returns
returns c =
    let test = sym c.is_list.ensures ∙ c.if-not-is_list.false in
    same
    (a_list _ c.args.bytes.now c.counts-counted.result.all c.counts-counted.result.good
    test c.counts-counted.ensures.all c.counts-counted.ensures.good)
    (after (after c.put_heading-a.ensures c.put_lines-b.ensures) c.put_footing.ensures)
