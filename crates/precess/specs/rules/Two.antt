-- Two places side by side: each with its two floats and its check, all of them fixed whatever is refused.
-- `first_precessed` and `second_precessed` in laws/Two say that each is the place that it is alone.
use Rattle.double.specs.rules.Operations.{◌⊕◌}
use Rattle.quantity.specs.declared.Rad.{Rad}
use Rattle.quantity.specs.declared.Places.{Places}
use Rattle.quantity.specs.declared.Refusal.{Refusal}
use Rattle.root.specs.rules.Root.{root_of}
use Rattle.elementary.specs.declared.Direction.{Direction}
use Rattle.elementary.specs.rules.Direction.{direction_of}
use Rattle.elementary_arc.specs.rules.Arcsine.{square}
use Rattle.precess_angles.specs.declared.EqPrecession.{EqPrecession}
use Rattle.precess_arcs.specs.rules.Arcs.{arcs_check, arcs_two}
use Rattle.precess.specs.rules.Equatorial.{arcs_of}

unfoldable pub precessed_two_from : Direction → Direction → EqPrecession → Places Refusal
precessed_two_from d e precession =
    let a = arcs_of d precession in
    let b = arcs_of e precession in
    let p = arcs_two a.up a.across a.height (root_of (square a.height)) b.up b.across b.height (root_of (square b.height)) in
    record {
      first_asc = p.first_asc ⊕ precession.zeta.0;
      second_asc = p.second_asc ⊕ precession.zeta.0;
      first_dec = p.first_dec;
      second_dec = p.second_dec;
      first_check = arcs_check a.up a.across a.height;
      second_check = arcs_check b.up b.across b.height;
    }

unfoldable pub precessed_two : Rad → Rad → Rad → Rad → EqPrecession → Places Refusal
unfolding precessed_two_from
precessed_two asc dec asc2 dec2 precession =
    precessed_two_from (direction_of (record { asc = asc.0 ⊕ precession.xi.0; dec = dec.0 }))
    (direction_of (record { asc = asc2.0 ⊕ precession.xi.0; dec = dec2.0 })) precession
