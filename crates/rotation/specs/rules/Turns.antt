-- The turns of the axes, and the rotation of two days: the right-hand pair is multiplied first.
use Rattle.std.specs.Prelude.{[], ◌∷◌, Float}
use Rattle.std.specs.Float.Ieee.{neg}
use Rattle.double.specs.rules.Operations.{zero, one}
use Rattle.quantity.specs.declared.Rad.{Rad}
use Rattle.quantity.specs.rules.Angle.{rad}
use Rattle.edition.specs.declared.Edition.{Edition}
use Rattle.elementary.specs.rules.Sine.{sine_of, cosine_of}
use Rattle.precess_angles.specs.declared.EqAngles.{EqAngles}
use Rattle.precess_angles.specs.rules.Equatorial.{eq_angles_of}
use Rattle.rotation.specs.rules.Matrix.{Matrix, product}

-- Rz(a), about the third axis
unfoldable pub about_z : Rad → Matrix
about_z a =
    let s = sine_of a in
    let c = cosine_of a in
    (c ∷ s ∷ zero ∷ [])
    ∷ (neg s ∷ c ∷ zero ∷ [])
    ∷ (zero ∷ zero ∷ one ∷ [])
    ∷ []

-- Ry(a), about the second
unfoldable pub about_y : Rad → Matrix
about_y a =
    let s = sine_of a in
    let c = cosine_of a in
    (c ∷ zero ∷ neg s ∷ [])
    ∷ (zero ∷ one ∷ zero ∷ [])
    ∷ (s ∷ zero ∷ c ∷ [])
    ∷ []

abbrev pub minus : Rad → Rad
minus a = rad (neg a.0)

-- Rz(−second) · (Ry(third) · Rz(−first)), where xi is the first angle, zeta the second and theta the third
unfoldable pub rotation_by : EqAngles → Matrix
rotation_by a = product (about_z (minus a.zeta)) (product (about_y a.theta) (about_z (minus a.xi)))

-- by the angles of the caller's edition from the first day to the second
unfoldable pub rotation_of : Edition → Float → Float → Matrix
rotation_of e day1 day2 = rotation_by (eq_angles_of e day1 day2)
