-- Each of two places side by side is the one that it is alone.
use Rattle.std.specs.Prelude.{◌≡◌}
use Rattle.double.specs.rules.Operations.{◌⊕◌}
use Rattle.quantity.specs.declared.Rad.{Rad}
use Rattle.quantity.specs.rules.Angle.{rad}
use Rattle.quantity.specs.rules.Answer.{answered, pair, checked, unless, plus, first_place, second_place}
use Rattle.elementary.specs.declared.Direction.{Direction}
use Rattle.elementary_arc.specs.rules.Arctangent.{arctangent_of}
use Rattle.precess_angles.specs.declared.EqPrecession.{EqPrecession}
use Rattle.precess_arcs.specs.rules.Arcs.{arcs_check, arcs_two}
use Rattle.precess_arcs.specs.laws.Arcs.{height_arc, arcs_checked, arcs_by_tests}
use Rattle.precess.specs.declared.Arcs.{Arcs}
use Rattle.precess.specs.rules.Equatorial.{arcs_of, precessed_from, precessed_in}
use Rattle.precess.specs.rules.Two.{precessed_two}

precessed_by_arcs : (d : Direction) (precession : EqPrecession) → (
    let a : Arcs = arcs_of d precession in
    unless (checked (arcs_check a.up a.across a.height))
    (answered (pair ((arctangent_of a.up a.across).0 ⊕ precession.zeta.0) (height_arc a.height).0))
    ≡ precessed_from d precession
    )
unfolding precessed_from plus
precessed_by_arcs d precession =
    let a = arcs_of d precession in
    rw (arcs_checked a.up a.across a.height) (arcs_by_tests (λ (x : Rad). rad (x.0 ⊕ precession.zeta.0)) a.up a.across a.height)

module _ (asc dec asc2 dec2 : Rad) (precession : EqPrecession) where
  pub first_precessed : first_place (precessed_two asc dec asc2 dec2 precession) ≡ precessed_in asc dec precession
  unfolding precessed_two precessed_in arcs_two
  first_precessed = precessed_by_arcs _ precession

  pub second_precessed : second_place (precessed_two asc dec asc2 dec2 precession) ≡ precessed_in asc2 dec2 precession
  unfolding precessed_two precessed_in arcs_two
  second_precessed = precessed_by_arcs _ precession
