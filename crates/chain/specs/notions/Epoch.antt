-- Nutation and the Earth's velocity on the day 2451545.0, in numbers.
use Rattle.double.specs.rules.Operations.{bits}
use Rattle.quantity.specs.rules.Angle.{rad}
use Rattle.nutation_args.specs.declared.Nutations.{Nutations}
use Rattle.aberr_args.specs.declared.Velocity.{Velocity}

-- about −6.75·10^−5 and −2.80·10^−5
abbrev pub nutation : Nutations
nutation = record { long = rad (bits 0xbf11b1f0588fd7f5); oblq = rad (bits 0xbefd5a3bf7915aba) }

-- about −1720235, −290499 and −125948
abbrev pub velocity : Velocity
velocity = record { x = bits 0xc13a3fab5dfc8bec; y = bits 0xc111bb0d7746fd5a; z = bits 0xc0febfc055dfb9c7 }
