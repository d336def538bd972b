-- What is stored of a star's answer are doubles, so that their bits read back as they are.
use Rattle.std.specs.Prelude.{Bool, true, false, cond, T, Float}
use Rattle.std.specs.Float.{nan, inf, fin, binary64}
use Rattle.std.specs.Float.Ieee.{fits, le, lt}
use Rattle.std.specs.Float.Ieee.Fits.{cond-fits, neg-fits, add-fits, sub-fits}
use Rattle.double.specs.rules.Operations.{one, ◌⊖◌, ◌⊘◌}
use Rattle.double.specs.rules.Sign.{size, bears_minus}
use Rattle.quantity.specs.declared.Rad.{Rad}
use Rattle.quantity.specs.rules.Angle.{PI, HALF}
use Rattle.quantity.specs.rules.Answer.{Answer, answered, refused, then, both}
use Rattle.root.specs.rules.Root.{root_rule}
use Rattle.elementary_arc.specs.rules.Arctangent.{near, both_zero, atn, base, supplement_if, arctangent_of, arctangent_in}
use Rattle.elementary_arc.specs.rules.Arcsine.{square, arcsine_in}
use Rattle.list.specs.declared.Star.{Star}
use Rattle.star_place.specs.rules.Place.{asc_of, dec_of}
use Rattle.star_store.specs.rules.Star.{star_refusal}
use Rattle.star_store.specs.laws.ReadBack.{Held, held_refused, held_unless}
use Rattle.rotation.specs.rules.Matrix.{Matrix, part}
use Rattle.rotation.specs.rules.Place.{place_along, turned, rotated_in}
use Rattle.rotation_list.specs.rules.Rotate.{rotated_star}

-- an angle that is answered is a double
abbrev Fits : Answer Rad → Type 0
Fits (answered x) = T (fits binary64 x.0)
Fits (refused n) = Unit {0}

size_fits : (x : Float) → T (fits binary64 x) → T (fits binary64 (size x))
unfolding size fits
size_fits nan h = h
size_fits (inf s) h = tt
size_fits (fin s m e) h = h

atn_fits : (v : Float) → T (fits binary64 (atn v))
atn_fits v = cond-fits binary64 (le v near) _ _ (add-fits binary64 _ _) (add-fits binary64 _ _)

base_fits : (y x : Float) → T (fits binary64 (base y x))
base_fits y x = cond-fits binary64 (le y x) (atn (y ⊘ x)) (HALF ⊖ atn (x ⊘ y)) (atn_fits (y ⊘ x)) (sub-fits binary64 _ _)

arctangent_fits : (y x : Float) → T (fits binary64 (arctangent_of y x).0)
unfolding arctangent_of
arctangent_fits y x =
    let b = base (size y) (size x) in
    let whole = size_fits (supplement_if (bears_minus x) b) (cond-fits binary64 (bears_minus x) (PI ⊖ b) b (sub-fits binary64 _ _) (base_fits (size y) (size x))) in
    cond-fits binary64 (bears_minus y) _ _ (neg-fits binary64 _ whole) whole

choice : (b : Bool) (p q : Answer Rad) → Fits p → Fits q → Fits (cond b p q)
choice true p q h k = h
choice false p q h k = k

fits_then : (a : Answer Float) (f : Float → Answer Rad) → ((x : Float) → Fits (f x)) → Fits (then a f)
unfolding then
fits_then (answered x) f h = h x
fits_then (refused n) f h = tt

arctangent_held : (y x : Float) → Fits (arctangent_in y x)
unfolding arctangent_in
arctangent_held y x = choice (both_zero y x) (refused 14) (answered (arctangent_of y x)) tt (arctangent_fits y x)

arcsine_held : (s : Float) → Fits (arcsine_in s)
unfolding arcsine_in
arcsine_held s =
    let by-root : Float → Answer Rad = arctangent_in s in
    choice (lt one (size s)) (refused 7) (then (root_rule (square s)) by-root) tt (fits_then (root_rule (square s)) by-root (arctangent_held s))

held_both : (a b : Answer Rad) → Fits a → Fits b → Held (both a b)
unfolding both then
held_both (answered x) (answered y) h k = (h, k)
held_both (answered x) (refused n) h k = held_refused n
held_both (refused n) b h k = held_refused n

pub held_rotated : (m : Matrix) (years : Float) (star : Star) → Held (rotated_star m years star)
unfolding rotated_star rotated_in place_along
held_rotated m years star =
    let v = turned m (asc_of star years) (dec_of star years) in
    held_unless (star_refusal star years) (rotated_in m (asc_of star years) (dec_of star years))
    (held_both (arctangent_in (part v 1) (part v 0)) (arcsine_in (part v 2)) (arctangent_held (part v 1) (part v 0)) (arcsine_held (part v 2)))
