-- Wrong variants of the rotation of two days, and of a place under it; and a place mirrored in right ascension, which is not promised.
use Rattle.std.specs.Prelude.{ℕ, cond, [], ◌∷◌, Float}
use Rattle.std.specs.Float.Ieee.{neg, lt}
use Rattle.double.specs.rules.Operations.{zero, one, ◌⊕◌, ◌⊗◌}
use Rattle.double.specs.rules.Sign.{size}
use Rattle.quantity.specs.declared.Rad.{Rad}
use Rattle.quantity.specs.declared.Places.{Places}
use Rattle.quantity.specs.declared.Refusal.{Refusal}
use Rattle.quantity.specs.rules.Angle.{rad}
use Rattle.quantity.specs.rules.Answer.{Answer, Pair, pair, first, second, with, both, second_place}
use Rattle.edition.specs.declared.Edition.{Edition}
use Rattle.edition.specs.declared.Edition.TheVariants.{Crate, Published}
use Rattle.elementary.specs.rules.Sine.{sine_of, cosine_of}
use Rattle.elementary.specs.rules.Direction.{direction_of}
use Rattle.elementary_arc.specs.rules.Arctangent.{arctangent_in}
use Rattle.elementary_arc.specs.rules.Arcsine.{arcsine_in}
use Rattle.helpers.specs.rules.Angle.{within_two_PI}
use Rattle.helpers.specs.rules.Time.{century_of}
use Rattle.precess_angles.specs.declared.EqAngles.{EqAngles}
use Rattle.precess_angles.specs.rules.Days.{span_of}
use Rattle.precess_angles.specs.rules.Equatorial.{eq_theta, eq_angles_of}
use Rattle.rotation.specs.rules.Matrix.{Vector, Matrix, part, entry, vector, product}
use Rattle.rotation.specs.rules.Turns.{about_y, about_z, minus, rotation_by, rotation_of}
use Rattle.rotation.specs.rules.Place.{vector_of, place_along}

-- ---- one turn

-- the vector is turned for the axes
abbrev pub vector_turned_about_z : Rad → Matrix
vector_turned_about_z a =
    let s = sine_of a in
    let c = cosine_of a in
    (c ∷ neg s ∷ zero ∷ []) ∷ (s ∷ c ∷ zero ∷ []) ∷ (zero ∷ zero ∷ one ∷ []) ∷ []

abbrev pub vector_turned_about_y : Rad → Matrix
vector_turned_about_y a =
    let s = sine_of a in
    let c = cosine_of a in
    (c ∷ zero ∷ s ∷ []) ∷ (zero ∷ one ∷ zero ∷ []) ∷ (neg s ∷ zero ∷ c ∷ []) ∷ []

-- ---- the rotation

abbrev pub left_pair_first : EqAngles → Matrix
left_pair_first a = product (product (about_z (minus a.zeta)) (about_y a.theta)) (about_z (minus a.xi))

-- each of the three turned the other way
abbrev pub second_other_way : EqAngles → Matrix
second_other_way a = product (about_z a.zeta) (product (about_y a.theta) (about_z (minus a.xi)))

abbrev pub third_other_way : EqAngles → Matrix
third_other_way a = product (about_z (minus a.zeta)) (product (about_y (minus a.theta)) (about_z (minus a.xi)))

abbrev pub first_other_way : EqAngles → Matrix
first_other_way a = product (about_z (minus a.zeta)) (product (about_y a.theta) (about_z a.xi))

-- the second for the first
abbrev pub angles_traded : EqAngles → Matrix
angles_traded a = product (about_z (minus a.xi)) (product (about_y a.theta) (about_z (minus a.zeta)))

abbrev pub transposed : EqAngles → Matrix
transposed a =
    let m = rotation_by a in
    vector (λ (j : ℕ). entry m j 0) ∷ vector (λ (j : ℕ). entry m j 1) ∷ vector (λ (j : ℕ). entry m j 2) ∷ []

-- the right-hand pair without its products by zero
abbrev pub zeros_left_out : EqAngles → Matrix
zeros_left_out a =
    let s = sine_of a.theta in
    let c = cosine_of a.theta in
    let s' = sine_of (minus a.xi) in
    let c' = cosine_of (minus a.xi) in
    product (about_z (minus a.zeta))
    ((c ⊗ c' ∷ c ⊗ s' ∷ neg s ∷ []) ∷ (neg s' ∷ c' ∷ zero ∷ []) ∷ (s ⊗ c' ∷ s ⊗ s' ∷ c ∷ []) ∷ [])

abbrev pub other_edition : Edition → Float → Float → Matrix
other_edition Crate day1 day2 = rotation_of Published day1 day2
other_edition Published day1 day2 = rotation_of Crate day1 day2

-- taken for radians
abbrev pub third_in_degrees : Edition → Float → Float → Matrix
third_in_degrees e day1 day2 =
    let a = eq_angles_of e day1 day2 in
    rotation_by (record { xi = a.xi; zeta = a.zeta; theta = rad (eq_theta e (century_of day1) (span_of day1 day2)).0 })

-- ---- a place

-- products summed right to left
abbrev pub right_to_left : Matrix → Rad → Rad → Answer Pair
right_to_left m asc dec =
    let v = vector_of (direction_of (record { asc = asc.0; dec = dec.0 })) in
    place_along (vector (λ (i : ℕ). entry m i 0 ⊗ part v 0 ⊕ (entry m i 1 ⊗ part v 1 ⊕ entry m i 2 ⊗ part v 2)))

-- by a height past 1 in size as by 1
abbrev pub arcsine_clamped : Vector → Answer Pair
arcsine_clamped v = both (arctangent_in (part v 1) (part v 0)) (arcsine_in (cond (lt one (size (part v 2))) one (part v 2)))

-- into a turn
abbrev pub asc_folded : Vector → Answer Pair
asc_folded v = both (with within_two_PI (arctangent_in (part v 1) (part v 0))) (arcsine_in (part v 2))

-- y and x for x and y
abbrev pub arguments_traded : Vector → Answer Pair
arguments_traded v = both (arctangent_in (part v 0) (part v 1)) (arcsine_in (part v 2))

-- the second place for the first
abbrev pub lanes_traded : Places Refusal → Answer Pair
lanes_traded = second_place

-- ---- not promised

-- a place with its right ascension negated
abbrev pub mirrored : Pair → Pair
mirrored p = pair (neg (first p)) (second p)
