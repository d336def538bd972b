-- One number of an answer in the sky, where that is enough to tell a wrong variant.
use Rattle.std.specs.Prelude.{Float}
use Rattle.double.specs.rules.Operations.{zero}
use Rattle.quantity.specs.rules.Answer.{Answer, answered, refused, Triple, triple}

abbrev pub heading_number : Answer Triple → Float
heading_number (answered (triple x z a)) = x
heading_number (refused n) = zero

abbrev pub azimuth_number : Answer Triple → Float
azimuth_number (answered (triple x z a)) = z
azimuth_number (refused n) = zero

abbrev pub altitude_number : Answer Triple → Float
altitude_number (answered (triple x z a)) = a
altitude_number (refused n) = zero
