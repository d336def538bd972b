-- `remainder::digits` meets its contract.
use mathlib.Core.Path.{sym}
use Rattle.remainder.specs.laws.Digits.{digits_low, digits_high}
use Rattle.remainder.proofs.digits.Goals as goal

pub returns-then-b-lt4503599627370496 : goal.returns-then-b-lt4503599627370496
returns-then-b-lt4503599627370496 c = sym (digits_low _ c.if-b-lt4503599627370496.true)

pub returns : goal.returns
returns c = sym (digits_high _ c.if-b-lt4503599627370496.false)
