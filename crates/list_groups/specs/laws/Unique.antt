-- What is shown of an answer loses nothing, so that the contract holds of one answer only.
use Rattle.std.specs.Prelude.{ℕ, ◌≡◌, Result, Ok, Err}
use Rattle.std.proofs.Common.{ap}
use Rattle.quantity.specs.declared.Refusal.{Refusal}
use Rattle.quantity.specs.rules.Answer.{answered}
use Rattle.list.specs.laws.Answer.{same_refusal}
use Rattle.list_groups.specs.rules.Reading.{AtOffset}
use Rattle.list_groups.specs.rules.Read.{shown_read}

pub same_offset : {A : Type 0} (x y : AtOffset A) → answered x ≡ answered y → x ≡ y
same_offset x y e = cc

pub read_loses_nothing : {A : Type 0} (r s : Result (A × ℕ) Refusal) → shown_read r ≡ shown_read s → r ≡ s
read_loses_nothing {A} (Ok (x, p)) (Ok (y, q)) e = ap (λ (z : AtOffset A). Ok (z.value, z.offset)) (same_offset _ _ e)
read_loses_nothing (Ok (x, p)) (Err n) e = cc
read_loses_nothing (Err m) (Ok (y, q)) e = cc
read_loses_nothing (Err m) (Err n) e = ap Err (same_refusal m n e)
