-- A night under which nothing moves, and the refusal of its angles.
use Rattle.std.specs.Prelude.{ℕ}
use Rattle.double.specs.rules.Operations.{zero, one}
use Rattle.quantity.specs.declared.Refusal.{Refusal}
use Rattle.quantity.specs.rules.Answer.{named}
use Rattle.quantity.specs.notions.Stated.{r0}
use Rattle.chain.specs.declared.Night.{Night}

abbrev pub still : ℕ → Night Refusal
still n =
    record {
      precession = record { xi = r0; zeta = r0; sine = zero; cosine = one };
      nutation = record { long = r0; oblq = r0 };
      sin_oblq = zero;
      cos_oblq = one;
      velocity = record { x = zero; y = zero; z = zero };
      check = named n;
    }
