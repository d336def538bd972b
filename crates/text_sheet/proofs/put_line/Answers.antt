-- `text_sheet::put_line` meets its contract, piece by piece.
use mathlib.Core.Path.{◌≡◌, sym, ◌∙◌}
use mathlib.Core.Bool.{Bool, true, false}
use mathlib.Core.List.{◌++◌, append_assoc}
use Rattle.lent.specs.laws.Writing.{after, same}
use Rattle.list.specs.rules.Record.{in_range}
use Rattle.list.specs.declared.Star.{Star}
use Rattle.text_number.specs.rules.Number.{decimal_text}
use Rattle.text_sheet.specs.rules.Sheet.{ok_end, bad_end, place_text, rates_text, line}
use Rattle.text_sheet.proofs.put_line.Goals as goal

module _ (rates : Bool) (r : Star) where
  good_line : in_range r ≡ true → decimal_text r.number ++ place_text r ++ rates_text rates r ++ ok_end ≡ line rates r
  unfolding line
  good_line e = simp (append_assoc, e)

  bad_line : in_range r ≡ false → decimal_text r.number ++ bad_end ≡ line rates r
  unfolding line
  bad_line e = simp e

pub returns-then-in_range : goal.returns-then-in_range
returns-then-in_range c =
    let a = c.args in
    same (good_line a.rates a.star (sym c.in_range.ensures ∙ c.if-in_range.true))
    (after (after (after c.put_decimal-a.ensures c.put_place-b.ensures) c.put_rates-c.ensures) c.put.ensures)

pub returns : goal.returns
returns c =
    let a = c.args in
    same (bad_line a.rates a.star (sym c.in_range.ensures ∙ c.if-in_range.false)) (after c.put_decimal-a.ensures c.put-2.ensures)
