-- Wrong variants of the ceiling.
use Rattle.std.specs.Prelude.{Float, take}
use Rattle.double.specs.rules.Operations.{zero, one, ◌⊕◌, ◌⊗◌, ◌⊘◌}
use Rattle.double.specs.rules.Sign.{size}
use Rattle.quantity.specs.declared.Deg.{Deg}
use Rattle.quantity.specs.rules.Angle.{deg, rad}
use Rattle.quantity.specs.rules.Answer.{Answer, answered, Pair, pair}
use Rattle.nutation_args.specs.declared.Row.{Row}
use Rattle.nutation_args.specs.declared.Sums.{Sums}
use Rattle.nutation_args.specs.declared.Nutations.{Nutations}
use Rattle.nutation_args.specs.rules.Numbers.{n10}
use Rattle.nutation_args.specs.rules.Sum.{unit, share, none, converted}
use Rattle.nutation_table.specs.rules.Rows.{rows}
use Rattle.nutation_ceiling.specs.rules.Ceiling.{long_largest, oblq_largest, largest_sum, ceiling_of}

-- ---- a row's share, of a coefficient, its slow part and the size of the century

abbrev pub coefficient_signed : Float → Float → Float → Deg
coefficient_signed c d u = share c (size d) one u

abbrev pub slow_part_signed : Float → Float → Float → Deg
slow_part_signed c d u = share (size c) d one u

-- |c| + |d|/10
abbrev pub slow_part_alone : Float → Float → Float → Deg
slow_part_alone c d u = share (size c) (size d) one one

-- |c| + u·(|d|/10)
abbrev pub slow_part_regrouped : Float → Float → Float → Deg
slow_part_regrouped c d u = deg ((size c ⊕ u ⊗ (size d ⊘ n10)) ⊗ one ⊗ unit)

-- a row's obliquity added to the longitude, and the other way
abbrev pub columns_traded : Row → Float → Sums → Sums
columns_traded x u s =
    record { long = deg (s.long.0 ⊕ (oblq_largest x u).0); oblq = deg (s.oblq.0 ⊕ (long_largest x u).0) }

-- ---- the sums

abbrev pub not_converted : Sums → Nutations
not_converted s = record { long = rad s.long.0; oblq = rad s.oblq.0 }

-- the century with its sign
abbrev pub century_signed : Float → Nutations
century_signed t = converted (largest_sum rows t none)

abbrev pub one_row_fewer : Float → Nutations
one_row_fewer t = converted (largest_sum (take 62 rows) (size t) none)

abbrev pub nothing : Float → Nutations
nothing t = record { long = rad zero; oblq = rad zero }

-- ---- a day

-- no day refused
abbrev pub any_day_answered : Float → Answer Pair
any_day_answered day = answered (pair (ceiling_of day).long.0 (ceiling_of day).oblq.0)
