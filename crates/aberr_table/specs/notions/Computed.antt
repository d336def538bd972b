-- What a theorem opens that works rules out at stated inputs: the rows of aberration and the walk over its table.
use Rattle.std.specs.Prelude.{ℕ}
use Rattle.aberr_args.specs.notions.Computed as args
use Rattle.aberr_table.specs.rules.Rows.{row1, row2, row3, row4, row5, row6, row7, row8, row9, row10, row11, row12, row13, row14, row15, row16}
use Rattle.aberr_table.specs.rules.Rows.{row17, row18, row19, row20, row21, row22, row23, row24, row25, row26, row27, row28, row29, row30}
use Rattle.aberr_table.specs.rules.Rows.{row31, row32, row33, row34, row35, row36}
use Rattle.aberr_table.specs.rules.Velocity.{summed, velocity_of}
use Rattle.aberr_table.specs.rules.Table.{walked}

-- names for the line below each, which is what counts

-- the rows and the walk as they are written, their operations shut
unfoldable pub written : ℕ
unfolding args.written row1 row2 row3 row4 row5 row6 row7 row8 row9 row10 row11 row12 row13 row14 row15 row16 row17 row18 row19 row20 row21 row22 row23 row24 row25 row26 row27 row28 row29 row30 row31 row32 row33 row34 row35 row36 summed walked
written = 0

unfoldable pub computed : ℕ
unfolding args.computed written velocity_of
computed = 0
