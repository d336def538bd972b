-- Wrong variants are excluded: each differs from the rule at the input stated. The rules vary.
use Rattle.std.specs.Prelude.{refl, ◌≢◌}
use Rattle.double.specs.rules.Operations.{zero, one}
use Rattle.double.specs.laws.Apart.{apart}
use Rattle.quantity.specs.declared.Deg.{Deg}
use Rattle.quantity.specs.rules.Angle.{deg}
use Rattle.quantity.specs.rules.Answer.{Answer, answered, refused, Triple, triple}
use Rattle.report_marks.specs.rules.Marked.{marked_by, status_of, bits_of}
use Rattle.report_marks.specs.notions.Computed.{computed}
use Rattle.report_marks.specs.notions.Wrong.{of_marked, readings_exchanged, kinds_confused}

-- 0.0 and 1.0 degrees
abbrev d0 : Deg
d0 = deg zero

abbrev d1 : Deg
d1 = deg one

-- a star in the north
abbrev north : Answer Triple
north = answered (triple zero one one)

pub marked_varies : marked_by north d0 d1 ≢ marked_by (refused 10) d0 d1
unfolding computed
marked_varies = apart status_of refl

pub readings_exchanged_excluded : readings_exchanged north d0 d1 ≢ marked_by north d0 d1
unfolding computed
readings_exchanged_excluded = apart of_marked refl

pub kinds_confused_excluded : kinds_confused (refused 3) d0 d1 ≢ marked_by (refused 3) d0 d1
kinds_confused_excluded = apart bits_of refl
