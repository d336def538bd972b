-- What the code's answer is on paper: what was read and the offset after it, or a refusal.
use Rattle.std.specs.Prelude.{ℕ, Result, Ok, Err}
use Rattle.quantity.specs.declared.Refusal.{Refusal}
use Rattle.quantity.specs.rules.Answer.{Answer, answered, refused, number}
use Rattle.list_groups.specs.rules.Reading.{AtOffset}

abbrev pub shown_read : {A : Type 0} → Result (A × ℕ) Refusal → Answer (AtOffset A)
shown_read (Ok (x, next)) = answered (record { value = x; offset = next })
shown_read (Err e) = refused (number e)
