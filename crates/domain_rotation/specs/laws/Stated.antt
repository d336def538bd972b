-- The rotation at stated days and places: where nothing turns, where 14 is met, and where the mirror in right ascension does not hold.
use Rattle.std.specs.Prelude.{◌≡◌, refl, [], ◌∷◌, ◌≢◌}
use Rattle.double.specs.rules.Operations.{bits, zero, one}
use Rattle.double.specs.laws.Apart.{apart}
use Rattle.quantity.specs.rules.Angle.{rad}
use Rattle.quantity.specs.rules.Answer.{refused, with}
use Rattle.quantity.specs.rules.Refusal.{epoch}
use Rattle.quantity.specs.notions.Code.{of_answer, of_first, of_second}
use Rattle.quantity.specs.notions.Stated.{r0, r½, r2, earlier, later}
use Rattle.edition.specs.declared.Edition.{Edition}
use Rattle.edition.specs.declared.Edition.TheVariants.{Crate, Published}
use Rattle.rotation.specs.rules.Turns.{minus, rotation_of}
use Rattle.rotation.specs.rules.Place.{rotated_in}
use Rattle.rotation.specs.notions.Computed.{computed}
use Rattle.rotation.specs.notions.Wrong.{mirrored}

-- from the epoch to itself nothing turns, and no zero bears a minus sign
pub nothing_turns : (e : Edition)
    → rotation_of e epoch epoch ≡ (one ∷ zero ∷ zero ∷ []) ∷ (zero ∷ one ∷ zero ∷ []) ∷ (zero ∷ zero ∷ one ∷ []) ∷ []
unfolding computed
nothing_turns Crate = refl
nothing_turns Published = refl

-- from 3013128.5 to 2023542.5 a place that comes to lie in the pole itself
pub rotated_meets_fourteen : rotated_in (rotation_of Crate (bits 0x4146fd0440000000) (bits 0x413ee07680000000)) (rad (bits 0x400b958972c1aa82)) (rad (bits 0x3ff4eed8727ffbdd)) ≡ refused 14
unfolding computed
rotated_meets_fourteen = refl

-- ---- the mirror in right ascension: negate that of a place, and its rotated place need not be the other's mirrored

-- where the axes turn they turn one way for both: the declinations differ
pub mirror_not_kept : rotated_in (rotation_of Crate earlier later) (minus r2) r½ ≢ with mirrored (rotated_in (rotation_of Crate earlier later) r2 r½)
unfolding computed
mirror_not_kept = apart (of_answer of_second) refl

-- where nothing turns a zero loses its sign: the sum of products with zeros is +0.0 for both
pub mirror_loses_a_sign : (e : Edition) → rotated_in (rotation_of e epoch epoch) (minus r0) r½ ≢ with mirrored (rotated_in (rotation_of e epoch epoch) r0 r½)
unfolding computed
mirror_loses_a_sign Crate = apart (of_answer of_first) refl
mirror_loses_a_sign Published = apart (of_answer of_first) refl
