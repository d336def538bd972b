-- What is known of the precession that two days fix, and where a place has no direction after it.
use Rattle.std.specs.Prelude.{Bool, Float}
use Rattle.std.specs.Float.Ieee.{neg}
use Rattle.double.specs.rules.Operations.{one, ◌⊕◌, ◌⊖◌, ◌⊗◌}
use Rattle.double.specs.rules.Order.{Between}
use Rattle.quantity.specs.declared.Rad.{Rad}
use Rattle.quantity.specs.rules.Angle.{rad}
use Rattle.elementary.specs.rules.Sine.{sine_of, cosine_of}
use Rattle.elementary_arc.specs.rules.Arctangent.{both_zero}
use Rattle.precess_angles.specs.declared.EqAngles.{EqAngles}
use Rattle.precess_angles.specs.declared.EqPrecession.{EqPrecession}
use Rattle.precess_ecl.specs.declared.EclPrecession.{EclPrecession}
use Rattle.domain_accepted.specs.notions.Within.{Within}

pub record EqAnglesNear (angles : EqAngles) : Type 0 where
  pub xi : Within 1024 angles.xi.0
  pub zeta : Within 32 angles.zeta.0
  pub theta : Within 2048 angles.theta.0

pub record EqPrecessionNear (precession : EqPrecession) : Type 0 where
  pub xi : Within 1024 precession.xi.0
  pub zeta : Within 32 precession.zeta.0
  pub sine : Between (neg one) one precession.sine
  pub cosine : Between (neg one) one precession.cosine

pub record EclPrecessionNear (precession : EclPrecession) : Type 0 where
  pub nu : Within 1024 precession.nu.0
  pub sine : Between (neg one) one precession.sine
  pub cosine : Between (neg one) one precession.cosine
  pub pi : Within 16 precession.pi.0
  pub rho : Within 16 precession.rho.0

-- ---- a place after precession: the arguments of the arctangent

abbrev pub up_of : Rad → Rad → EqPrecession → Float
up_of asc dec precession = cosine_of dec ⊗ sine_of (rad (asc.0 ⊕ precession.xi.0))

abbrev pub across_of : Rad → Rad → EqPrecession → Float
across_of asc dec precession =
    precession.cosine ⊗ cosine_of dec ⊗ cosine_of (rad (asc.0 ⊕ precession.xi.0)) ⊖ precession.sine ⊗ sine_of dec

-- both are zero
abbrev pub no_direction : Rad → Rad → EqPrecession → Bool
no_direction asc dec precession = both_zero (up_of asc dec precession) (across_of asc dec precession)
