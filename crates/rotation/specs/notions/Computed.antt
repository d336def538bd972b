-- What a theorem opens that works rules out at stated inputs: the rotation, over the angles of two days and the elementary functions.
use Rattle.std.specs.Prelude.{ℕ}
use Rattle.quantity.specs.rules.Answer.{then, both}
use Rattle.elementary_arc.specs.notions.Computed as arc
use Rattle.precess_angles.specs.notions.Computed as angles
use Rattle.rotation.specs.rules.Matrix.{row_times, product, applied}
use Rattle.rotation.specs.rules.Turns.{about_y, about_z, rotation_by, rotation_of}
use Rattle.rotation.specs.rules.Place.{vector_of, place_along, rotated_in}

-- a name for the line below it, which is what counts
unfoldable pub computed : ℕ
unfolding arc.computed angles.computed then both row_times product applied about_y about_z rotation_by rotation_of vector_of place_along rotated_in
computed = 0
