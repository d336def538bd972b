-- Wrong variants are excluded: each differs from the rule at the list stated. The rule varies: a library that refuses everything, or
-- answers a constant, does not meet it.
use Rattle.std.specs.Prelude.{ℕ, ◌≡◌, refl, true, false, List, [], ◌∷◌, ◌++◌, length, ◌≢◌}
use Rattle.double.specs.notions.Code.{of_number}
use Rattle.double.specs.laws.Apart.{apart}
use Rattle.quantity.specs.notions.Code.{of_answer}
use Rattle.quantity.specs.notions.Varies.{Varies}
use Rattle.lent.specs.rules.Rows.{upto}
use Rattle.list.specs.rules.Record.{width}
use Rattle.text_number.specs.notions.Code.{of_text}
use Rattle.text_sheet.specs.rules.Sheet.{sheet_of}
use Rattle.text_sheet.specs.rules.Render.{room, render_rule}
use Rattle.text_sheet.specs.notions.Computed.{computed}
use Rattle.text_sheet.specs.notions.Wrong.{capital_ok, rates_unasked, rates_printed_traded, good_and_bad_traded, refused_by_nine}
use Rattle.text_sheet.specs.notions.Wrong.{empty_counted, empty_printed, empty_counted_good, empty_counted_bad}

-- a list of one star, the other bytes of whose record are zeros, and bytes that are no list
abbrev single : List ℕ
single = 1 ∷ upto 19 (λ (i : ℕ). 0)

abbrev short : List ℕ
short = 0 ∷ []

-- a list of one star with yearly changes of 0 and 1
abbrev moving : List ℕ
moving = 1 ∷ (upto 15 (λ (i : ℕ). 0) ++ (1 ∷ 0 ∷ 0 ∷ 0 ∷ []))

-- a list of one empty place
abbrev empty : List ℕ
empty = upto width (λ (i : ℕ). 0)

-- into any slice that has room
pub render_varies : (old : List ℕ) → length old ≡ room → Varies (render_rule false single old) (render_rule false [] old)
unfolding computed
render_varies old h = rw h (record { here = refl; there = refl; apart = apart (of_answer of_number) refl })

pub capital_ok_excluded : capital_ok false single ≢ sheet_of false single
unfolding computed
capital_ok_excluded = apart of_text refl

pub rates_unasked_excluded : rates_unasked single ≢ sheet_of false single
unfolding computed
rates_unasked_excluded = apart of_text refl

pub rates_printed_traded_excluded : rates_printed_traded moving ≢ sheet_of true moving
unfolding computed
rates_printed_traded_excluded = apart of_text refl

pub good_and_bad_traded_excluded : good_and_bad_traded false single ≢ sheet_of false single
unfolding computed
good_and_bad_traded_excluded = apart of_text refl

pub empty_counted_excluded : empty_counted false empty ≢ sheet_of false empty
unfolding computed
empty_counted_excluded = apart of_text refl

pub empty_printed_excluded : empty_printed false empty ≢ sheet_of false empty
unfolding computed
empty_printed_excluded = apart of_text refl

pub empty_counted_good_excluded : empty_counted_good false empty ≢ sheet_of false empty
unfolding computed
empty_counted_good_excluded = apart of_text refl

pub empty_counted_bad_excluded : empty_counted_bad false empty ≢ sheet_of false empty
unfolding computed
empty_counted_bad_excluded = apart of_text refl

pub refused_by_nine_excluded : refused_by_nine false short ≢ sheet_of false short
unfolding computed
refused_by_nine_excluded = apart of_text refl
