-- What is known of rise, culmination and set, and the refusals that their work meets.
use Rattle.std.specs.Prelude.{ℕ, ◌≡◌, ◌⊎◌}
use Rattle.double.specs.rules.Operations.{zero, one}
use Rattle.double.specs.rules.Order.{Between}
use Rattle.quantity.specs.rules.Answer.{Triple, triple}

-- each is from 0.0 to 1.0; 1.0 itself comes of a number below zero by next to nothing
abbrev pub OfADay : Triple → Type 0
OfADay (triple x y z) = Between zero one x × Between zero one y × Between zero one z

abbrev pub FifteenOrSixteen : ℕ → Type 0
FifteenOrSixteen n = (n ≡ 15) ⊎ (n ≡ 16)
