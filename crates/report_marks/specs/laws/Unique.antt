-- A contract through `shown_marked` holds of one answer only.
use Rattle.std.specs.Prelude.{◌≡◌, Result, Ok, Err}
use Rattle.std.proofs.Common.{ap}
use Rattle.quantity.specs.declared.Deg.{Deg}
use Rattle.quantity.specs.declared.Refusal.{Refusal}
use Rattle.quantity.specs.laws.Answer.{number_loses_nothing}
use Rattle.report_marks.specs.declared.Unmarked.{Unmarked}
use Rattle.report_marks.specs.declared.Unmarked.TheVariants.{Sight as OfSight, Mark as OfMark}
use Rattle.report_marks.specs.rules.Marked.{shown_marked}

pub shown_marked_loses_nothing : (r s : Result Deg Unmarked) → shown_marked r ≡ shown_marked s → r ≡ s
shown_marked_loses_nothing (Ok a) (Ok b) h = cc
shown_marked_loses_nothing (Ok a) (Err (OfSight b)) h = cc
shown_marked_loses_nothing (Ok a) (Err (OfMark b)) h = cc
shown_marked_loses_nothing (Err (OfSight a)) (Ok b) h = cc
shown_marked_loses_nothing (Err (OfSight a)) (Err (OfSight b)) h = ap (λ (e : Refusal). Err (OfSight e)) (number_loses_nothing a b cc)
shown_marked_loses_nothing (Err (OfSight a)) (Err (OfMark b)) h = cc
shown_marked_loses_nothing (Err (OfMark a)) (Ok b) h = cc
shown_marked_loses_nothing (Err (OfMark a)) (Err (OfSight b)) h = cc
shown_marked_loses_nothing (Err (OfMark a)) (Err (OfMark b)) h = ap (λ (e : Refusal). Err (OfMark e)) (number_loses_nothing a b cc)
