-- Wrong variants are excluded: each differs from the rule at the input stated.
use Rattle.std.specs.Prelude.{ℕ, refl, List, [], ◌∷◌, pos, ◌≢◌}
use Rattle.double.specs.laws.Apart.{apart}
use Rattle.quantity.specs.rules.Answer.{status_of}
use Rattle.quantity.specs.rules.Refusal.{epoch}
use Rattle.edition.specs.declared.Edition.TheVariants.{Crate}
use Rattle.list.specs.declared.Star.{Star}
use Rattle.list.specs.rules.Record.{turn}
use Rattle.list.specs.rules.Stars.{list_bytes}
use Rattle.text_number.specs.rules.Bytes.{ascii}
use Rattle.report_residuals.specs.declared.Style.TheVariants.{Figures}
use Rattle.report_residuals.specs.rules.Came.{came_to}
use Rattle.report_residuals.specs.rules.Report.{report_of}
use Rattle.report_residuals.specs.notions.Computed.{computed}
use Rattle.report_residuals.specs.notions.Wrong.{of_report, star_by_place, unclear_passed_over, text_before_list}

-- a list of one star, number 2, out of range
abbrev other : Star
other = record { number = 2; asc = turn; dec = pos 0; asc_rate = pos 0; dec_rate = pos 0 }

abbrev one : List ℕ
one = list_bytes (other ∷ [])

abbrev damaged : List ℕ
damaged = 0 ∷ []

abbrev word : List ℕ
word = ascii "x"

-- number 1 is not on it
pub star_by_place_excluded : star_by_place Crate one epoch epoch 0 ≢ came_to Crate one epoch epoch 1
unfolding computed
star_by_place_excluded = apart status_of refl

pub unclear_passed_over_excluded : unclear_passed_over Figures Crate [] epoch epoch word ≢ report_of Figures Crate [] epoch epoch word
unfolding computed
unclear_passed_over_excluded = apart of_report refl

pub text_before_list_excluded : text_before_list Figures Crate damaged epoch epoch word ≢ report_of Figures Crate damaged epoch epoch word
unfolding computed
text_before_list_excluded = apart of_report refl
