-- Wrong variants are excluded: each differs from the rule at the input stated.
use Rattle.std.specs.Prelude.{ℕ, refl, true, List, [], ◌∷◌, ◌≢◌}
use Rattle.double.specs.laws.Apart.{apart}
use Rattle.text_number.specs.notions.Code.{of_text}
use Rattle.text_headings.specs.rules.Sight.{seconds_text, way_text, aside_text, row_at}
use Rattle.text_headings.specs.rules.Mean.{spread_text}
use Rattle.text_headings.specs.notions.Computed.{computed}
use Rattle.text_headings.specs.notions.Wrong.{zeros_lost, other_way, aside_taken_in, residual_traded, place_for_line, spread_of_one}

pub zeros_lost_excluded : zeros_lost 12 ≢ seconds_text 12
unfolding computed
zeros_lost_excluded = apart of_text refl

pub other_way_excluded : other_way true ≢ way_text true
unfolding computed
other_way_excluded = apart of_text refl

pub aside_taken_in_excluded : aside_taken_in true ≢ aside_text true
unfolding computed
aside_taken_in_excluded = apart of_text refl

-- two sights, at 0.0 and 1.0 degrees, in lines 7 and 9
abbrev lines : List ℕ
lines = 7 ∷ 9 ∷ []

abbrev headings : List ℕ
headings = 0 ∷ 0x3ff0000000000000 ∷ []

pub residual_traded_excluded : residual_traded lines lines headings 0 1 ≢ row_at lines lines headings 0 1
unfolding computed
residual_traded_excluded = apart of_text refl

pub place_for_line_excluded : place_for_line lines lines headings 0 1 ≢ row_at lines lines headings 0 1
unfolding computed
place_for_line_excluded = apart of_text refl

pub spread_of_one_excluded : spread_of_one 1 0 0 ≢ spread_text 1 0 0
unfolding computed
spread_of_one_excluded = apart of_text refl
