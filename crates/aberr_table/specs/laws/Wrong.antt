-- Wrong variants are excluded: each differs from the rule for the arguments and the sums so far that are stated.
use Rattle.std.specs.Prelude.{ℕ, refl, Float, ◌≢◌}
use Rattle.std.specs.Float.Ieee.{neg}
use Rattle.double.specs.rules.Operations.{bits, zero, half, one}
use Rattle.double.specs.notions.Greatest.{greatest}
use Rattle.double.specs.laws.Apart.{apart}
use Rattle.quantity.specs.rules.Angle.{rad}
use Rattle.quantity.specs.notions.Code.{of_float}
use Rattle.quantity.specs.notions.Stated.{r0}
use Rattle.aberr_args.specs.declared.Arguments.{Arguments}
use Rattle.aberr_args.specs.declared.Velocity.{Velocity}
use Rattle.aberr_table.specs.rules.Rows.{row1, row19, row21, row29, row30, row31, row32, row33, row34, row35, row36}
use Rattle.aberr_table.specs.rules.Velocity.{none}
use Rattle.aberr_table.specs.rules.Table.{plain, A, Z, AZ}
use Rattle.aberr_table.specs.notions.Computed.{computed}
use Rattle.aberr_table.specs.notions.Wrong.{one_coefficient_changed, parts_in_t_dropped, another_rows_parts_in_t, two_rows_traded, one_row_fewer}
use Rattle.aberr_table.specs.notions.Wrong.{parts_in_t_walked, AX, XZ, marked}

abbrev of_x : Velocity → ℕ
of_x v = of_float v.x

abbrev of_z : Velocity → ℕ
of_z v = of_float v.z

-- at the century 1.0: l2, l3, l4 and l5, the others 0.0
abbrev at : Float → Float → Float → Float → Arguments
at a b c e =
    record {
      t = one;
      l2 = rad a;
      l3 = rad b;
      l4 = rad c;
      l5 = rad e;
      l6 = r0;
      l7 = r0;
      l8 = r0;
      l1 = r0;
      d = r0;
      m1 = r0;
      f = r0;
    }

abbrev still : Arguments
still = at zero zero zero zero

-- 0.25, and a sum so far of 1.0
abbrev quarter : Arguments
quarter = at zero (bits 0x3fd0000000000000) zero zero

abbrev onward : Velocity
onward = record { x = one; y = zero; z = zero }

-- 0.5 and 0.1
abbrev tenth : Arguments
tenth = at half (bits 0x3fb999999999999a) zero zero

-- about 7.6·10^19, where cosine is infinite and twice the sine
abbrev far : Float
far = bits 0x4410800000000000

-- ---- rows

pub one_coefficient_changed_excluded : one_coefficient_changed still none ≢ row1 still none
unfolding computed
one_coefficient_changed_excluded = apart of_z refl

pub parts_in_t_dropped_excluded : parts_in_t_dropped still none ≢ row1 still none
unfolding computed
parts_in_t_dropped_excluded = apart of_z refl

pub another_rows_parts_in_t_excluded : another_rows_parts_in_t still none ≢ row1 still none
unfolding computed
another_rows_parts_in_t_excluded = apart of_z refl

pub two_rows_traded_excluded : two_rows_traded quarter onward ≢ row30 quarter (row29 quarter onward)
unfolding computed
two_rows_traded_excluded = apart of_x refl

pub one_row_fewer_excluded : one_row_fewer still none ≢ row36 still none
unfolding computed
one_row_fewer_excluded = apart of_z refl

pub parts_in_t_walked_excluded : parts_in_t_walked still none ≢ row36 still none
unfolding computed
parts_in_t_walked_excluded = apart of_z refl

-- ---- marks

-- 3·cos A − 3·sin A
pub row_21_unmarked_excluded : marked 20 plain (at zero one zero zero) none ≢ row21 (at zero one zero zero) none
unfolding computed
row_21_unmarked_excluded = apart of_z refl

-- 3·l2 − 3·l3
pub row_34_unmarked_excluded : marked 33 plain tenth none ≢ row34 tenth none
unfolding computed
row_34_unmarked_excluded = apart of_x refl

-- x as 5·sin A − 5·cos A
pub row_35_x_unmarked_excluded : marked 34 AZ (at zero half zero zero) none ≢ row35 (at zero half zero zero) none
unfolding computed
row_35_x_unmarked_excluded = apart of_x refl

-- twice either is infinite: rows 19, 33 and 35, where the argument is twice a difference
pub row_19_unmarked_excluded : marked 18 plain (at greatest greatest zero zero) none ≢ row19 (at greatest greatest zero zero) none
unfolding computed
row_19_unmarked_excluded = apart of_x refl

pub row_33_argument_unmarked_excluded : marked 32 Z (at zero greatest zero greatest) none ≢ row33 (at zero greatest zero greatest) none
unfolding computed
row_33_argument_unmarked_excluded = apart of_x refl

pub row_35_argument_unmarked_excluded : marked 34 XZ (at zero greatest greatest zero) none ≢ row35 (at zero greatest greatest zero) none
unfolding computed
row_35_argument_unmarked_excluded = apart of_x refl

-- twice the sine is infinite, as the cosine is: rows 31, 33 and 35, where z is twice a sum or a difference
pub row_31_unmarked_excluded : marked 30 plain (at zero zero (neg far) zero) none ≢ row31 (at zero zero (neg far) zero) none
unfolding computed
row_31_unmarked_excluded = apart of_z refl

pub row_33_z_unmarked_excluded : marked 32 A (at zero far zero zero) none ≢ row33 (at zero far zero zero) none
unfolding computed
row_33_z_unmarked_excluded = apart of_z refl

pub row_35_z_unmarked_excluded : marked 34 AX (at zero far zero zero) none ≢ row35 (at zero far zero zero) none
unfolding computed
row_35_z_unmarked_excluded = apart of_z refl

-- −1·(sin A + cos A), where the two take each other away: the sign of a zero, in a sum so far of −0.0
abbrev opposed : Arguments
opposed = at zero (bits 0x435f310e448536fb) zero zero

abbrev below : Velocity
below = record { x = neg zero; y = zero; z = zero }

pub row_32_unmarked_excluded : marked 31 plain opposed below ≢ row32 opposed below
unfolding computed
row_32_unmarked_excluded = apart of_x refl
