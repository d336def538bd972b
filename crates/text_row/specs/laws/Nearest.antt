-- What is shown is the nearest: of every finite right ascension the number of milliseconds before a whole turn is taken off, and of a
-- declination, up to the farthest angle, the number of hundredths.
use Rattle.std.specs.Prelude.{◌≤◌, ◌≡◌, refl, T, Float}
use Rattle.std.proofs.Common.{le_trans, arith}
use Rattle.std.proofs.Math.Dec.{lit≤}
use Rattle.std.specs.Float.{nan, inf, fin}
use Rattle.std.specs.Float.Ieee.{binary64, neg, mul, le, of_bits, round, to_unsigned, fits}
use Rattle.std.specs.Float.Ieee.Fits.{mul-fits}
use Rattle.double.specs.rules.Operations.{zero}
use Rattle.double.specs.rules.Sign.{is_finite, size}
use Rattle.double.specs.rules.Order.{◌≼◌, Finite, Plus, Between}
use Rattle.double.specs.rules.Table.{decimal}
use Rattle.double.specs.rules.Whole.{whole_part}
use Rattle.double.specs.notions.Range.{known, con, ◌⊠◌}
use Rattle.double.specs.laws.Between.{size→between, between→size}
use Rattle.double.specs.laws.Interval.{bounded}
use Rattle.double.specs.laws.Sign.{plus_size, finite_size}
use Rattle.double.specs.laws.WholePart.{whole_part_mono}
use Rattle.quantity.specs.declared.Rad.{Rad}
use Rattle.quantity.specs.rules.Angle.{rad}
use Rattle.quantity.specs.rules.Refusal.{farthest}
use Rattle.units.specs.rules.Degrees.{to_degrees, degrees_of_radian}
use Rattle.units.specs.rules.Nearest.{nearest_whole}
use Rattle.units.specs.notions.Nearest.{IsNearest}
use Rattle.units.specs.laws.Nearest.{nearest_true}
use Rattle.helpers.specs.rules.Angle.{within_two_PI}
use Rattle.helpers.specs.laws.Limit.{limited_radians}
use Rattle.text_number.specs.rules.Bytes.{ascii}
use Rattle.text_row.specs.rules.Place.{milliseconds_of_degree, milliseconds, hours_text, hundredths_of_degree, hundredths}
use Rattle.text_row.specs.notions.Computed.{computed}

-- ---- a right ascension

-- 86400000.0
abbrev turn : Float
turn = decimal 86400000 0

module _ (x : Rad) (F : Finite x.0) where
  abbrev in_turn : Float
  in_turn = milliseconds (to_degrees (within_two_PI x))

  in_turn_lem : Between zero turn in_turn
  unfolding is_finite le mul of_bits round
  in_turn_lem =
      bounded binary64 zero turn (known (limited_radians x.0 F) ⊠ con degrees_of_radian ⊠ con milliseconds_of_degree) tt

  whole_at_most : whole_part in_turn ≤ 86400000
  whole_at_most =
      le_trans (whole_part_mono in_turn turn in_turn_lem.finite in_turn_lem.end (unfold round in tt) in_turn_lem.to)
      (unfold round to_unsigned in lit≤ tt)

  -- where it bears a minus sign it is −0, which `minus_zero_is_none` shows
  pub milliseconds_nearest : Plus in_turn → IsNearest (nearest_whole in_turn) in_turn
  milliseconds_nearest p =
      let h = whole_at_most in
      nearest_true in_turn (mul-fits binary64 _ _) in_turn_lem.finite p (omega arith)

pub minus_zero_is_none : hours_text (rad (neg zero)) ≡ ascii "00:00:00.000"
unfolding computed
minus_zero_is_none = refl

-- ---- a declination

size_fits : (x : Float) → T (fits binary64 x) → T (fits binary64 (size x))
unfolding fits size
size_fits nan F = tt
size_fits (inf s) F = tt
size_fits (fin s m e) F = F

-- 64 radians are less than 1400000000 hundredths
abbrev many : Float
many = decimal 1400000000 0

module _ (x : Rad) (near : size x.0 ≼ farthest) where
  abbrev in_arc : Float
  in_arc = hundredths (to_degrees x)

  in_arc_lem : Between (neg many) many in_arc
  unfolding is_finite le neg mul of_bits round
  in_arc_lem =
      bounded binary64 (neg many) many (known (size→between farthest x.0 tt near) ⊠ con degrees_of_radian ⊠ con hundredths_of_degree) tt

  finite_arc : Finite (size in_arc)
  finite_arc = rw (finite_size in_arc) in_arc_lem.finite

  arc_at_most : whole_part (size in_arc) ≤ 1400000000
  arc_at_most =
      le_trans (whole_part_mono (size in_arc) many finite_arc in_arc_lem.end (unfold round in tt) (between→size many in_arc in_arc_lem))
      (unfold round to_unsigned in lit≤ tt)

  pub hundredths_nearest : IsNearest (nearest_whole (size in_arc)) (size in_arc)
  hundredths_nearest =
      let h = arc_at_most in
      nearest_true (size in_arc) (size_fits in_arc (mul-fits binary64 _ _)) finite_arc (plus_size in_arc in_arc_lem.finite) (omega arith)
