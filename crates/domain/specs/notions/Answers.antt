-- An answer in code that is a finite number, or refused by 1.
use Rattle.std.specs.Prelude.{◌≡◌, Result, Ok, Err}
use Rattle.double.specs.rules.Order.{Finite}
use Rattle.quantity.specs.declared.Deg.{Deg}
use Rattle.quantity.specs.declared.Rad.{Rad}
use Rattle.quantity.specs.declared.Refusal.{Refusal}
use Rattle.quantity.specs.rules.Answer.{number}

abbrev pub FiniteDegrees : Result Deg Refusal → Type 0
FiniteDegrees (Ok v) = Finite v.0
FiniteDegrees (Err n) = number n ≡ 1

abbrev pub FiniteRadians : Result Rad Refusal → Type 0
FiniteRadians (Ok v) = Finite v.0
FiniteRadians (Err n) = number n ≡ 1
