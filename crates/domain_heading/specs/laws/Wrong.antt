-- Each theorem fails of a wrong variant, at the input stated; and so do stronger statements.
use Rattle.std.specs.Prelude.{◌≡◌, refl, ◌⊎◌, true, false, Float}
use Rattle.std.proofs.Common.{inl, inr}
use Rattle.std.specs.Float.Ieee.{neg}
use Rattle.double.specs.rules.Operations.{bits, zero, one, ◌⊕◌}
use Rattle.double.specs.rules.Sign.{bears_minus, size}
use Rattle.double.specs.rules.Order.{◌≼◌, Finite, Between}
use Rattle.double.specs.laws.Apart.{apart}
use Rattle.double.specs.laws.Between.{between}
use Rattle.quantity.specs.declared.Deg.{Deg}
use Rattle.quantity.specs.declared.Rad.{Rad}
use Rattle.quantity.specs.rules.Angle.{deg, rad, opposite, PI, HALF}
use Rattle.quantity.specs.notions.Code.{of_float, of_deg}
use Rattle.quantity.specs.notions.Stated.{r0, r½, r1}
use Rattle.units.specs.rules.Degrees.{to_degrees}
use Rattle.helpers.specs.rules.Angle.{turn_in_degrees, turn_in_radians}
use Rattle.coords.specs.rules.Horizon.{southward}
use Rattle.helpers.specs.rules.Circle.{half_turn}
use Rattle.heading.specs.rules.Sky.{sky_in}
use Rattle.heading.specs.rules.Mark.{mark_refusal}
use Rattle.heading.specs.notions.Computed.{computed}
use Rattle.heading.specs.notions.Wrong.{whole_turn_kept, south_for_north, east_for_west, quarter_for_half, opposite_heading, mark_from_north}
use Rattle.domain_heading.specs.notions.Circle.{IsHeading, east, west}
use Rattle.domain_heading.specs.notions.Sky.{turned}
use Rattle.domain_heading.specs.notions.Mirror.{below_whole_turn, above_whole_turn, Across, adds_up, first_north, second_north}
use Rattle.domain_heading.specs.notions.Wrong.{heading_number, azimuth_number, altitude_number}

-- ---- on the circle

-- less than none by 2^−1074
pub within_with_the_whole_turn_kept_excluded : ¬ ((x : Float) → Finite x → IsHeading (whole_turn_kept (deg x)).0)
unfolding computed
within_with_the_whole_turn_kept_excluded wrong = (wrong (bits 0x8000000000000001) tt).below

-- ---- halves and quarters, where south is taken for north, and east for west

-- an azimuth of 1.0, and of −1.0
abbrev m1 : Rad
m1 = opposite r1

pub west_with_south_for_north_excluded : ¬ ((az : Rad) → size az.0 ≼ PI → bears_minus az.0 ≡ false
    → (half_turn ≼ (south_for_north (to_degrees az)).0) ⊎ ((south_for_north (to_degrees az)).0 ≡ zero))
unfolding computed
west_with_south_for_north_excluded wrong = elim (wrong r1 tt refl) [ inl t ↦ absurd t | inr e ↦ apart of_float refl e ]

pub west_with_east_for_west_excluded : ¬ ((az : Rad) → size az.0 ≼ PI → bears_minus az.0 ≡ false
    → (half_turn ≼ (east_for_west (to_degrees az)).0) ⊎ ((east_for_west (to_degrees az)).0 ≡ zero))
unfolding computed
west_with_east_for_west_excluded wrong = elim (wrong r1 tt refl) [ inl t ↦ absurd t | inr e ↦ apart of_float refl e ]

pub east_with_south_for_north_excluded : ¬ ((az : Rad) → size az.0 ≼ PI → bears_minus az.0 ≡ true → (south_for_north (to_degrees az)).0 ≼ half_turn)
unfolding computed
east_with_south_for_north_excluded wrong = wrong m1 tt refl

pub east_with_east_for_west_excluded : ¬ ((az : Rad) → size az.0 ≼ PI → bears_minus az.0 ≡ true → (east_for_west (to_degrees az)).0 ≼ half_turn)
unfolding computed
east_with_east_for_west_excluded wrong = wrong m1 tt refl

-- due south
pub south_with_south_for_north_excluded : ¬ ((az : Rad) → size az.0 ≼ HALF → Between east west (south_for_north (to_degrees az)).0)
unfolding computed
south_with_south_for_north_excluded wrong = (wrong r0 tt).from

-- due north
pub north_with_south_for_north_excluded : ¬ ((az : Rad) → size az.0 ≼ PI → HALF ≼ size az.0
    → ((south_for_north (to_degrees az)).0 ≼ east) ⊎ (west ≼ (south_for_north (to_degrees az)).0))
unfolding computed
north_with_south_for_north_excluded wrong = elim (wrong (rad PI) tt tt) [ inl t ↦ absurd t | inr t ↦ absurd t ]

pub turned_with_east_for_west_excluded : ¬ ((az : Rad) → size az.0 ≼ PI
    → ((east_for_west (to_degrees az)).0 ≡ turned az) ⊎ ((turned az ≡ turn_in_degrees) × ((east_for_west (to_degrees az)).0 ≡ zero)))
unfolding computed
turned_with_east_for_west_excluded wrong = elim (wrong r1 tt) [ inl e ↦ apart of_float refl e | inr e ↦ apart of_float refl e.1 ]

-- ---- the accident: a star due north, on the meridian, with the heading of the opposite quadrant

pub north_with_the_opposite_heading_excluded : ¬ ((h d p : Rad) → bears_minus (southward h d p) ≡ true
    → (heading_number (opposite_heading h d p) ≼ east) ⊎ (west ≼ heading_number (opposite_heading h d p)))
unfolding computed
north_with_the_opposite_heading_excluded wrong = elim (wrong r0 r½ r0 refl) [ inl t ↦ absurd t | inr t ↦ absurd t ]

-- ---- mirrors

-- due south: 90 and 90
pub across_with_quarter_for_half_excluded : ¬ ((z : Float) → Between (neg half_turn) half_turn z
    → Across (quarter_for_half (deg z)).0 (quarter_for_half (deg (neg z))).0)
unfolding computed
across_with_quarter_for_half_excluded wrong =
    elim (wrong zero (between tt tt tt tt)) [ adds_up i ↦ absurd i.from | first_north e t ↦ absurd t | second_north t e ↦ absurd t ]

pub azimuth_kept_with_the_hour_negated_excluded : ¬ ((h d p : Rad) → azimuth_number (sky_in (opposite h) d p) ≡ azimuth_number (sky_in h d p))
unfolding computed
azimuth_kept_with_the_hour_negated_excluded wrong = apart of_float refl (wrong r1 r0 r½)

pub altitude_kept_with_latitude_alone_negated_excluded : ¬ ((h d p : Rad) → altitude_number (sky_in h d (opposite p)) ≡ altitude_number (sky_in h d p))
unfolding computed
altitude_kept_with_latitude_alone_negated_excluded wrong = apart of_float refl (wrong r1 r½ r½)

-- the headings of an hour angle of 2·PI and of its opposite are 2^−45 and 0: not both are 0
pub both_north_excluded : ¬ ((h d p : Rad)
    → Between below_whole_turn above_whole_turn (heading_number (sky_in h d p) ⊕ heading_number (sky_in (opposite h) d p))
    ⊎ ((heading_number (sky_in h d p) ≡ zero) × (heading_number (sky_in (opposite h) d p) ≡ zero)))
unfolding computed
both_north_excluded wrong = elim (wrong (rad turn_in_radians) r½ r0) [ inl i ↦ absurd i.from | inr e ↦ apart of_float refl e.0 ]

-- ---- a mark: a heading of 0, and readings of 1

pub mark_at_the_star_from_north_excluded : ¬ ((heading star : Deg) → mark_refusal heading star star ≡ 0 → mark_from_north heading star star ≡ heading)
unfolding computed
mark_at_the_star_from_north_excluded wrong = apart of_deg refl (wrong (deg zero) (deg one) refl)
