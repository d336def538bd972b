-- Wrong variants are excluded: each differs from the rule at the input stated. A rule varies: a library that refuses everything, or
-- answers a constant, does not meet it.
use Rattle.std.specs.Prelude.{ℕ, refl, [], ◌∷◌, ◌≢◌}
use Rattle.std.proofs.Common.{sym, ◌∙◌}
use Rattle.std.specs.Float.Ieee.{neg}
use Rattle.double.specs.rules.Operations.{zero, one}
use Rattle.double.specs.notions.Code.{of_float}
use Rattle.double.specs.notions.Stated.{past_one}
use Rattle.double.specs.laws.Apart.{apart}
use Rattle.quantity.specs.rules.Answer.{first_place}
use Rattle.quantity.specs.rules.Refusal.{epoch}
use Rattle.quantity.specs.notions.Code.{of_answer, of_first, of_second}
use Rattle.quantity.specs.notions.Stated.{r0, r½, r1, r2, earlier, later}
use Rattle.quantity.specs.notions.Varies.{Varies}
use Rattle.edition.specs.declared.Edition.{Edition}
use Rattle.edition.specs.declared.Edition.TheVariants.{Crate, Published}
use Rattle.helpers.specs.rules.Angle.{limited}
use Rattle.precess_angles.specs.declared.EqAngles.{EqAngles}
use Rattle.precess_angles.specs.rules.Equatorial.{eq_angles_of}
use Rattle.rotation.specs.rules.Matrix.{Vector, Matrix, entry}
use Rattle.rotation.specs.rules.Turns.{about_y, about_z, rotation_by, rotation_of}
use Rattle.rotation.specs.rules.Place.{place_along, toward, rotated_in, rotated_two}
use Rattle.rotation.specs.laws.Two.{first_rotated, second_rotated}
use Rattle.rotation.specs.notions.Computed.{computed}
use Rattle.rotation.specs.notions.Wrong.{vector_turned_about_y, vector_turned_about_z, left_pair_first, second_other_way, third_other_way, first_other_way}
use Rattle.rotation.specs.notions.Wrong.{angles_traded, transposed, zeros_left_out, other_edition, third_in_degrees, right_to_left, arcsine_clamped}
use Rattle.rotation.specs.notions.Wrong.{asc_folded, arguments_traded, lanes_traded}

-- one entry of a matrix
abbrev at : ℕ → ℕ → Matrix → ℕ
at i j m = of_float (entry m i j)

-- ---- one turn

pub vector_turned_about_z_excluded : vector_turned_about_z r1 ≢ about_z r1
unfolding computed
vector_turned_about_z_excluded = apart (at 0 1) refl

pub vector_turned_about_y_excluded : vector_turned_about_y r1 ≢ about_y r1
unfolding computed
vector_turned_about_y_excluded = apart (at 0 2) refl

-- ---- the rotation

-- half a radian in these of the three angles, and 0.0 in the others
abbrev xi_alone : EqAngles
xi_alone = record { xi = r½; zeta = r0; theta = r0 }

abbrev zeta_alone : EqAngles
zeta_alone = record { xi = r0; zeta = r½; theta = r0 }

abbrev theta_alone : EqAngles
theta_alone = record { xi = r0; zeta = r0; theta = r½ }

abbrev xi_and_theta : EqAngles
xi_and_theta = record { xi = r½; zeta = r0; theta = r½ }

pub left_pair_first_excluded : left_pair_first (eq_angles_of Crate earlier later) ≢ rotation_by (eq_angles_of Crate earlier later)
unfolding computed
left_pair_first_excluded = apart (at 0 0) refl

pub second_other_way_excluded : second_other_way zeta_alone ≢ rotation_by zeta_alone
unfolding computed
second_other_way_excluded = apart (at 0 1) refl

pub third_other_way_excluded : third_other_way theta_alone ≢ rotation_by theta_alone
unfolding computed
third_other_way_excluded = apart (at 2 0) refl

pub first_other_way_excluded : first_other_way xi_alone ≢ rotation_by xi_alone
unfolding computed
first_other_way_excluded = apart (at 0 1) refl

pub angles_traded_excluded : angles_traded xi_and_theta ≢ rotation_by xi_and_theta
unfolding computed
angles_traded_excluded = apart (at 0 2) refl

pub transposed_excluded : transposed xi_alone ≢ rotation_by xi_alone
unfolding computed
transposed_excluded = apart (at 0 1) refl

-- where nothing turns, and the sign of a zero shows
pub zeros_left_out_excluded : zeros_left_out (eq_angles_of Crate epoch epoch) ≢ rotation_by (eq_angles_of Crate epoch epoch)
unfolding computed
zeros_left_out_excluded = apart (at 0 1) refl

pub other_edition_excluded : (e : Edition) → other_edition e earlier epoch ≢ rotation_of e earlier epoch
unfolding computed
other_edition_excluded Crate = apart (at 0 0) refl
other_edition_excluded Published = apart (at 0 0) refl

pub third_in_degrees_excluded : third_in_degrees Crate earlier epoch ≢ rotation_of Crate earlier epoch
unfolding computed
third_in_degrees_excluded = apart (at 2 0) refl

-- ---- a place

pub rotated_varies : Varies (rotated_in (rotation_of Crate epoch epoch) r2 r½) (rotated_in (rotation_of Crate epoch epoch) r0 r0)
unfolding computed
rotated_varies = record { here = refl; there = refl; apart = apart (of_answer of_second) refl }

-- in the rotation itself no more than two products of a sum are not zero
pub right_to_left_excluded : right_to_left (rotation_of Crate earlier later) r2 r½ ≢ rotated_in (rotation_of Crate earlier later) r2 r½
unfolding computed
right_to_left_excluded = apart (of_answer of_second) refl

abbrev too_high : Vector
too_high = one ∷ zero ∷ past_one ∷ []

pub arcsine_clamped_excluded : arcsine_clamped too_high ≢ place_along too_high
unfolding computed
arcsine_clamped_excluded = apart (of_answer of_second) refl

-- a quarter turn west
abbrev west : Vector
west = zero ∷ neg one ∷ zero ∷ []

pub asc_folded_excluded : asc_folded west ≢ place_along west
unfolding computed limited
asc_folded_excluded = apart (of_answer of_first) refl

pub arguments_traded_excluded : arguments_traded west ≢ place_along west
unfolding computed
arguments_traded_excluded = apart (of_answer of_first) refl

pub lanes_traded_excluded : lanes_traded (rotated_two (rotation_of Crate epoch epoch) (toward r2 r½) (toward r0 r0)) ≢ first_place (rotated_two (rotation_of Crate epoch epoch) (toward r2 r½) (toward r0 r0))
unfolding computed
lanes_traded_excluded wrong =
    apart (of_answer of_second) refl
    (sym (second_rotated (rotation_of Crate epoch epoch) r2 r½ r0 r0) ∙ wrong ∙ first_rotated (rotation_of Crate epoch epoch) r2 r½ r0 r0)
