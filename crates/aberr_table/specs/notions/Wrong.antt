-- Wrong variants of the table of aberration: what the rows give that are not the table's.
use Rattle.std.specs.Prelude.{ℕ, List, [], ◌∷◌, take, drop}
use Rattle.aberr_args.specs.declared.Arguments.{Arguments}
use Rattle.aberr_args.specs.declared.Row.{Row}
use Rattle.aberr_args.specs.declared.Velocity.{Velocity}
use Rattle.aberr_table.specs.rules.Table.{p, m, o, no, L3, plain, T0, T1, T2, row, table, walked}

-- the row after so many, changed
abbrev changed : ℕ → (Row → Row) → Arguments → Velocity → Velocity
changed after new = walked table (over (take 1 (drop after table)))
  where
    over : List Row → List Row
    over [] = []
    over (x ∷ xs) = new x ∷ xs

-- row 1 with 684158 for 684185
abbrev pub one_coefficient_changed : Arguments → Velocity → Velocity
one_coefficient_changed =
    changed 0 (λ (x : Row). row (p 1) L3 o no o no plain T1 (m 1719914) (m 25) (p 25) (p 1578089) (p 10) (p 684158))

-- row 1 without its parts in T
abbrev pub parts_in_t_dropped : Arguments → Velocity → Velocity
parts_in_t_dropped =
    changed 0 (λ (x : Row). row (p 1) L3 o no o no plain T0 (m 1719914) (m 25) (p 25) (p 1578089) (p 10) (p 684185))

-- row 1 with the parts in T of row 2
abbrev pub another_rows_parts_in_t : Arguments → Velocity → Velocity
another_rows_parts_in_t =
    changed 0 (λ (x : Row). row (p 1) L3 o no o no plain T2 (m 1719914) (m 25) (p 25) (p 1578089) (p 10) (p 684185))

-- row 30 before row 29
abbrev pub two_rows_traded : Arguments → Velocity → Velocity
two_rows_traded = walked table (traded (take 2 (drop 28 table)))
  where
    traded : List Row → List Row
    traded [] = []
    traded (x ∷ []) = x ∷ []
    traded (x ∷ y ∷ xs) = y ∷ x ∷ xs

-- the rows from the last on, without it
abbrev pub one_row_fewer : Arguments → Velocity → Velocity
one_row_fewer = walked table (drop 35 (take 35 table))

-- the rows from the last on, and those of the parts in T behind it
abbrev pub parts_in_t_walked : Arguments → Velocity → Velocity
parts_in_t_walked = walked table (drop 35 table)

-- marks that no row has
abbrev pub AX : ℕ
AX = 3

abbrev pub XZ : ℕ
XZ = 6

-- the row after so many, under another mark
abbrev pub marked : ℕ → ℕ → Arguments → Velocity → Velocity
marked after mark =
    changed after
    (λ (x : Row). row x.0 x.1 x.2 x.3 x.4 x.5 mark x.7 x.8 x.9 x.10 x.11 x.12 x.13)
