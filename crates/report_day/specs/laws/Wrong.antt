-- Wrong variants are excluded: each differs from the rule at the input stated. The constants are their decimals.
use Rattle.std.specs.Prelude.{◌≡◌, refl, true, false, List, [], ◌∷◌, Float, ◌≢◌}
use Rattle.std.specs.Float.Ieee.{of_bits, round}
use Rattle.double.specs.rules.Operations.{bits}
use Rattle.double.specs.rules.Table.{Row, ◌is◌, Agrees, decimal}
use Rattle.double.specs.laws.Apart.{apart}
use Rattle.quantity.specs.rules.Refusal.{epoch}
use Rattle.quantity.specs.notions.Stated.{r0, r1}
use Rattle.text_number.specs.rules.Bytes.{ascii}
use Rattle.text_number.specs.notions.Code.{of_text}
use Rattle.report_day.specs.rules.Digits.{parts_in_day, exact_text}
use Rattle.report_day.specs.rules.Day.{million, degrees_text, open_text, day_text}
use Rattle.report_day.specs.notions.Computed.{computed}
use Rattle.report_day.specs.notions.Wrong.{digits_cut, zeros_lost, mean_and_apparent_traded}

abbrev rows : List (Row Float)
rows = (parts_in_day is decimal 4294967296 0) ∷ (million is decimal 1000000 0) ∷ []

pub constants : Agrees rows
unfolding of_bits round
constants = refl

-- 2462088.69
abbrev evening : Float
evening = bits 0x4142c8c45851eb85

pub all_its_digits : exact_text evening ≡ ascii "2462088.6899999999441206455230712890625"
unfolding computed
all_its_digits = refl

pub digits_cut_excluded : digits_cut evening ≢ exact_text evening
unfolding computed
digits_cut_excluded = apart of_text refl

pub zeros_lost_excluded : zeros_lost r0 ≢ degrees_text r0
unfolding computed
zeros_lost_excluded = apart of_text refl

pub mean_and_apparent_traded_excluded : mean_and_apparent_traded epoch r0 r1 false ≢ day_text epoch r0 r1 false
unfolding computed
mean_and_apparent_traded_excluded = apart of_text refl

pub open_said : open_text true ≢ open_text false
unfolding computed
open_said = apart of_text refl
