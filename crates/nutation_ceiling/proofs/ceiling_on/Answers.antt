-- `nutation_ceiling::ceiling_on` meets its contract.
use mathlib.Core.Path.{ap, ◌∙◌, ◌≡◌}
use mathlib.Core.List.{List}
use lib.IntN.{ℤ}
use lib.Ieee.{Float}
use Rattle.double.specs.rules.Sign.{size}
use Rattle.nutation_args.specs.rules.Sum.{none, converted}
use Rattle.nutation_table.specs.rules.Rows.{table, rows_of, rows}
use Rattle.nutation_ceiling.specs.rules.Ceiling.{largest_sum, ceiling_at}
use Rattle.nutation_ceiling.proofs.ceiling_on.Goals as goal

both : {t : List (List ℤ)} {u v : Float} → t ≡ table → u ≡ v → largest_sum (rows_of t) u none ≡ largest_sum rows v none
both {u = u} e h = ap (λ (t : List (List ℤ)). largest_sum (rows_of t) u none) e ∙ ap (λ (u : Float). largest_sum rows u none) h

pub returns : goal.returns
unfolding ceiling_at
returns c =
    c.converted.ensures
    ∙ ap converted (c.sum_over.ensures ∙ both c.table.ensures (c.size.ensures ∙ ap size c.century.ensures))
