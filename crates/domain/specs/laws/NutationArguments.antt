-- The five arguments of nutation, each folded into one turn, are up to 7.0 in size, and each row's argument stays far below 400000.0.
use Rattle.std.specs.Prelude.{Float}
use Rattle.std.specs.Float.Ieee.{neg, add, sub, mul, div, le, of_bits, round}
use Rattle.double.specs.rules.Sign.{is_finite}
use Rattle.double.specs.rules.Order.{Finite}
use Rattle.double.specs.notions.Range.{known, con, ◌⊞◌, ◌⊟◌, ◌⊠◌, ◌⧄◌}
use Rattle.quantity.specs.declared.Deg.{Deg}
use Rattle.helpers.specs.rules.Angle.{degree}
use Rattle.helpers.specs.laws.Limit.{limited_degrees}
use Rattle.nutation_args.specs.rules.Numbers.{n134·96298, n477198·867398, n0·0086972, n56250, n357·52772, n35999·05034, n0·0001603, n300000}
use Rattle.nutation_args.specs.rules.Numbers.{n297·85036, n445267·11148, n0·0019142, n189474, n93·27191, n483202·017538, n0·0036825, n327270}
use Rattle.nutation_args.specs.rules.Numbers.{n125·04452, n1934·136261, n0·0020708, n450000}
use Rattle.nutation_args.specs.rules.Arguments.{moon_m1, sun_m, moon_d, moon_f, moon_node, in_turn, moon_from, moon_of}
use Rattle.domain_accepted.specs.notions.Within.{Within}
use Rattle.domain.specs.notions.Nutation.{MoonNear}
use Rattle.domain_accepted.specs.laws.Near.{within}

module _ (t : Float) (T : Within 20 t) where
  m1_finite : Finite (moon_m1 t).0
  unfolding moon_m1 is_finite le neg add sub mul div of_bits round
  m1_finite =
      (within 16777216
      (con n134·96298 ⊞ known T ⊠ (con n477198·867398 ⊞ known T ⊠ (con n0·0086972 ⊞ known T ⧄ con n56250))) tt).finite

  m_finite : Finite (sun_m t).0
  unfolding sun_m is_finite le neg add sub mul div of_bits round
  m_finite = (within 16777216 (con n357·52772 ⊞ known T ⊠ (con n35999·05034 ⊟ known T ⊠ (con n0·0001603 ⊞ known T ⧄ con n300000))) tt).finite

  d_finite : Finite (moon_d t).0
  unfolding moon_d is_finite le neg add sub mul div of_bits round
  d_finite =
      (within 16777216
      (con n297·85036 ⊞ known T ⊠ (con n445267·11148 ⊟ known T ⊠ (con n0·0019142 ⊟ known T ⧄ con n189474))) tt).finite

  f_finite : Finite (moon_f t).0
  unfolding moon_f is_finite le neg add sub mul div of_bits round
  f_finite =
      (within 16777216
      (con n93·27191 ⊞ known T ⊠ (con n483202·017538 ⊟ known T ⊠ (con n0·0036825 ⊟ known T ⧄ con n327270))) tt).finite

  node_finite : Finite (moon_node t).0
  unfolding moon_node is_finite le neg add sub mul div of_bits round
  node_finite =
      (within 16777216
      (con n125·04452 ⊟ known T ⊠ (con n1934·136261 ⊟ known T ⊠ (con n0·0020708 ⊞ known T ⧄ con n450000))) tt).finite

  in_turn_within : (x : Deg) → Finite x.0 → Within 7 (in_turn x).0
  unfolding in_turn is_finite le neg mul of_bits round
  in_turn_within x p = within 7 (known (limited_degrees x.0 p) ⊠ con degree) tt

  pub moon_near : MoonNear (moon_of t)
  unfolding moon_of moon_from
  moon_near =
      record {
        t = T;
        d = in_turn_within (moon_d t) d_finite;
        m = in_turn_within (sun_m t) m_finite;
        m1 = in_turn_within (moon_m1 t) m1_finite;
        f = in_turn_within (moon_f t) f_finite;
        node = in_turn_within (moon_node t) node_finite;
      }
