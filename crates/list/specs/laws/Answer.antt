-- What is shown of an answer loses nothing, so that each contract holds of one answer only.
use Rattle.std.specs.Prelude.{ℕ, ◌≡◌, Option, Some, None, Result, Ok, Err}
use Rattle.std.proofs.Common.{ap}
use Rattle.quantity.specs.declared.Refusal.{Refusal}
use Rattle.quantity.specs.rules.Answer.{Answer, answered, refused, number}
use Rattle.quantity.specs.laws.Answer.{number_loses_nothing}
use Rattle.list.specs.rules.Reader.{shown_stored}
use Rattle.list.specs.rules.Find.{Entry, shown_found}
use Rattle.list.specs.declared.Star.{Star}

pub same_refusal : {A : Type 0} (d e : Refusal) → ◌≡◌ {A = Answer A} (refused (number d)) (refused (number e)) → d ≡ e
same_refusal d e p = number_loses_nothing d e cc

pub stored_loses_nothing : (r s : Result (Option (Star × ℕ)) Refusal) → shown_stored r ≡ shown_stored s → r ≡ s
stored_loses_nothing (Ok (Some (a, m))) (Ok (Some (b, n))) e = cc
stored_loses_nothing (Ok (Some (a, m))) (Ok None) e = cc
stored_loses_nothing (Ok (Some (a, m))) (Err n) e = cc
stored_loses_nothing (Ok None) (Ok (Some (b, n))) e = cc
stored_loses_nothing (Ok None) (Ok None) e = cc
stored_loses_nothing (Ok None) (Err n) e = cc
stored_loses_nothing (Err m) (Ok (Some (b, n))) e = cc
stored_loses_nothing (Err m) (Ok None) e = cc
stored_loses_nothing (Err m) (Err n) e = ap Err (same_refusal m n e)

same_entry : (x y : Entry) → answered x ≡ answered y → x ≡ y
same_entry x y e = cc

pub found_loses_nothing : (r s : Result (ℕ × Star) Refusal) → shown_found r ≡ shown_found s → r ≡ s
found_loses_nothing (Ok (i, a)) (Ok (j, b)) p = ap (λ (x : Entry). Ok (x.index, x.star)) (same_entry _ _ p)
found_loses_nothing (Ok (i, a)) (Err n) p = cc
found_loses_nothing (Err m) (Ok (j, b)) p = cc
found_loses_nothing (Err m) (Err n) p = ap Err (same_refusal m n p)
