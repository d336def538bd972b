-- A latitude up to the pole; or one beside a longitude that is a quarter turn to the last bit, before it is brought within a turn.
use Rattle.std.specs.Prelude.{◌≡◌, ◌⊎◌}
use Rattle.double.specs.rules.Sign.{size}
use Rattle.double.specs.rules.Order.{◌≼◌, Between}
use Rattle.quantity.specs.declared.Rad.{Rad}
use Rattle.quantity.specs.rules.Angle.{HALF}
use Rattle.quantity.specs.rules.Answer.{Triple, triple}
use Rattle.helpers.specs.rules.Angle.{within_two_PI}

abbrev pub QuarterTurn : Rad → Type 0
QuarterTurn x = Between HALF HALF (size x.0)

abbrev pub UpToThePole : Triple → Type 0
UpToThePole (triple long lat semidiameter) = (size lat ≼ HALF) ⊎ ((l : Rad) × ((long ≡ (within_two_PI l).0) × QuarterTurn l))
