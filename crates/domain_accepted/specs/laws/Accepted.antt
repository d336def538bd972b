-- What is known of angles that are not refused: each may go into a sine, and a steep one into a tangent.
use Rattle.std.specs.Prelude.{◌≡◌, ℕ}
use Rattle.std.specs.Float.Ieee.{neg, le, of_bits}
use Rattle.double.specs.rules.Operations.{one}
use Rattle.double.specs.rules.Sign.{size, is_finite}
use Rattle.double.specs.rules.Order.{◌≼◌, Between}
use Rattle.double.specs.rules.Table.{over}
use Rattle.double.specs.laws.Order.{le_trans}
use Rattle.double.specs.laws.Between.{size→between}
use Rattle.quantity.specs.declared.Rad.{Rad}
use Rattle.quantity.specs.rules.Angle.{HALF}
use Rattle.quantity.specs.rules.Refusal.{lower, farthest, steepest, angle_refusal, latitude_refusal, steep_refusal}
use Rattle.elementary.specs.rules.Sine.{sine_of, cosine_of, tangent_of, farthest_alone}
use Rattle.quantity.specs.laws.Accepted.{lower_none, angle_accepted, latitude_accepted, steep_accepted}
use Rattle.elementary.specs.laws.Sine.{sine_between, cosine_between, tangent_between}

pub none_of_three : (a b c : ℕ) → lower a (lower b c) ≡ 0 → (a ≡ 0) × (b ≡ 0) × (c ≡ 0)
none_of_three a b c e =
    let n = lower_none a (lower b c) e in
    let m = lower_none b c n.1 in
    (n.0, m.0, m.1)

module _ (x : Rad) where
  module _ (none : angle_refusal x ≡ 0) where
    pub angle_far : size x.0 ≼ farthest_alone
    angle_far = le_trans (size x.0) farthest farthest_alone (angle_accepted x none) (unfold le of_bits in tt)

    pub angle_between : Between (neg farthest) farthest x.0
    angle_between = size→between farthest x.0 (unfold is_finite of_bits in tt) (angle_accepted x none)

    pub angle_sine : Between (neg one) one (sine_of x)
    angle_sine = sine_between x angle_far

    pub angle_cosine : Between (neg one) one (cosine_of x)
    angle_cosine = cosine_between x angle_far

  module _ (none : latitude_refusal x ≡ 0) where
    pub latitude_far : size x.0 ≼ farthest_alone
    latitude_far = le_trans (size x.0) HALF farthest_alone (latitude_accepted x none) (unfold le of_bits in tt)

    pub latitude_sine : Between (neg one) one (sine_of x)
    latitude_sine = sine_between x latitude_far

    pub latitude_cosine : Between (neg one) one (cosine_of x)
    latitude_cosine = cosine_between x latitude_far

  module _ (none : steep_refusal x ≡ 0) where
    pub steep_far : size x.0 ≼ farthest_alone
    steep_far = le_trans (size x.0) steepest farthest_alone (steep_accepted x none) (unfold le of_bits in tt)

    pub steep_tangent : Between (neg (over 16384 1)) (over 16384 1) (tangent_of x)
    steep_tangent = tangent_between x (steep_accepted x none)
