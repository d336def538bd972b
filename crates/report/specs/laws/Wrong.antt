-- Wrong variants are excluded: each differs from the rule at the input stated.
use Rattle.std.specs.Prelude.{ℕ, refl, List, [], ◌∷◌, length, get_or, ◌≢◌}
use Rattle.double.specs.rules.Operations.{zero, two}
use Rattle.double.specs.laws.Apart.{apart}
use Rattle.quantity.specs.rules.Refusal.{epoch}
use Rattle.quantity.specs.notions.Stated.{r0}
use Rattle.edition.specs.declared.Edition.TheVariants.{Crate, Published}
use Rattle.transit.specs.declared.Observer.{Observer}
use Rattle.lent.specs.rules.Rows.{upto}
use Rattle.list.specs.rules.Record.{width}
use Rattle.text_number.specs.notions.Code.{of_text}
use Rattle.text_answers.specs.declared.Style.TheVariants.{Table, Plan, PlanTable}
use Rattle.text_row.specs.rules.Row.{column_text, row_of}
use Rattle.text_answers.specs.rules.Answers.{heading_text, tally_text}
use Rattle.report.specs.rules.Report.{report_of, rotated_of}
use Rattle.report.specs.notions.Computed.{computed}
use Rattle.report.specs.notions.Wrong.{eight_before_three, observer_not_refused, refused_as_empty, edition_unsaid}
use Rattle.report.specs.notions.Wrong.{heading_of_places, observer_without_words, empty_has_line, alone_unsaid, alone_of_a_refusal}

-- no star, and a byte that is no list
abbrev empty : List ℕ
empty = []

abbrev damaged : List ℕ
damaged = 0 ∷ []

-- a list of one empty place
abbrev place : List ℕ
place = upto width (λ (i : ℕ). 0)

-- all angles 0.0, and a latitude of 2.0 radians
abbrev at_none : Observer
at_none = record { sidereal = r0; site = record { long = zero; lat = zero }; alt = r0 }

abbrev beyond_pole : Observer
beyond_pole = record { sidereal = r0; site = record { long = zero; lat = two }; alt = r0 }

pub eight_before_three_excluded : eight_before_three beyond_pole Crate damaged epoch epoch ≢ report_of (Plan beyond_pole) Crate damaged epoch epoch
unfolding computed
eight_before_three_excluded = apart of_text refl

pub observer_not_refused_excluded : observer_not_refused beyond_pole Crate empty epoch epoch ≢ report_of (Plan beyond_pole) Crate empty epoch epoch
unfolding computed
observer_not_refused_excluded = apart of_text refl

pub refused_as_empty_excluded : refused_as_empty Table Crate damaged epoch epoch ≢ report_of Table Crate damaged epoch epoch
unfolding computed
refused_as_empty_excluded = apart of_text refl

pub edition_unsaid_excluded : edition_unsaid Table Published empty epoch epoch ≢ report_of Table Published empty epoch epoch
unfolding computed
edition_unsaid_excluded = apart of_text refl

pub edition_of_plan_unsaid_excluded : edition_unsaid (Plan at_none) Published empty epoch epoch ≢ report_of (Plan at_none) Published empty epoch epoch
unfolding computed
edition_of_plan_unsaid_excluded = apart of_text refl

pub heading_of_places_excluded : heading_of_places (PlanTable at_none) Crate empty epoch epoch ≢ report_of (PlanTable at_none) Crate empty epoch epoch
unfolding computed
heading_of_places_excluded = apart of_text refl

pub observer_without_words_excluded : observer_without_words (PlanTable beyond_pole) empty epoch epoch ≢ report_of (PlanTable beyond_pole) Crate empty epoch epoch
unfolding computed
observer_without_words_excluded = apart of_text refl

-- by the byte behind the table's heading
pub empty_has_line_excluded : empty_has_line Table Crate place epoch epoch ≢ report_of Table Crate place epoch epoch
unfolding computed column_text row_of
empty_has_line_excluded = apart (λ (t : List ℕ). get_or t (length heading_text) 0) refl

pub alone_unsaid_excluded : alone_unsaid Crate empty epoch epoch ≢ rotated_of Crate empty epoch epoch
unfolding computed rotated_of tally_text
alone_unsaid_excluded = apart (λ (t : List ℕ). get_or t 0 0) refl

pub alone_of_a_refusal_excluded : alone_of_a_refusal Crate damaged epoch epoch ≢ rotated_of Crate damaged epoch epoch
unfolding computed rotated_of
alone_of_a_refusal_excluded = apart of_text refl
