-- Wrong variants are excluded: each differs from the rule at the input stated.
use Rattle.std.specs.Prelude.{refl, [], ◌∷◌, ◌≢◌}
use Rattle.double.specs.laws.Apart.{apart}
use Rattle.quantity.specs.notions.Code.{of_answer}
use Rattle.quantity.specs.rules.Answer.{answered, refused, then}
use Rattle.lent.specs.rules.Put.{room_for, laid}
use Rattle.lent.specs.notions.Code.{of_bytes}
use Rattle.lent.specs.notions.Wrong.{room_from_the_start, rest_cleared, refused_slice_cleared}

-- a text of one byte from offset 1 on, in a slice of one byte
pub room_from_the_start_excluded : room_from_the_start (0 ∷ []) 1 (answered (7 ∷ [])) ≢ room_for (0 ∷ []) 1 (answered (7 ∷ []))
unfolding room_for then
room_from_the_start_excluded = apart (of_answer of_bytes) refl

pub rest_cleared_excluded : rest_cleared (9 ∷ 9 ∷ []) 0 (answered (7 ∷ [])) ≢ laid (9 ∷ 9 ∷ []) 0 (answered (7 ∷ []))
rest_cleared_excluded = apart of_bytes refl

pub refused_slice_cleared_excluded : refused_slice_cleared (9 ∷ 9 ∷ []) 0 (refused 13) ≢ laid (9 ∷ 9 ∷ []) 0 (refused 13)
refused_slice_cleared_excluded = apart of_bytes refl
